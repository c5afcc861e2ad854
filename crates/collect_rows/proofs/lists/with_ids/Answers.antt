use Rattle.std.proofs.Common.{◌++◌, ap, sym, ◌∙◌, arith}
use Rattle.std.proofs.lemmas.List.{append-nil}
use Rattle.collect_rows.proofs.Steps.{ids_on, none_left}
use Rattle.collect_rows.proofs.lists.with_ids.Goals as goal

pub loop-at-preserved : goal.loop-at-preserved
loop-at-preserved c =
    ids_on c.args.sets.now c.args.ids.now c.loop-at.at c.index-sets-at.result c.index-ids-at.result _ _ _ (omega arith) (omega arith) c.index-sets-at.is c.index-ids-at.is c.loop-at.invariant c.in_ok-push_with_id.ensures

pub returns : goal.returns
returns c = sym (append-nil c.loop-at.all) ∙ (ap (λ ys. c.loop-at.all ++ ys) (sym (none_left c.args.sets.now c.args.ids.now c.loop-at.at (omega arith))) ∙ c.loop-at.invariant)
