use Rattle.std.proofs.Common.{◌++◌, ap, sym, ◌∙◌, arith}
use Rattle.std.proofs.lemmas.List.{append-nil}
use Rattle.collect_params.proofs.Steps.{none_left, values_on}
use Rattle.collect_params.proofs.ids.value_ids.Goals as goal

pub loop-at-preserved : goal.loop-at-preserved
loop-at-preserved c =
    values_on c.args.heap.now c.args.number c.args.names.now c.args.values.now c.loop-at.at c.index-names-at.result _ _ _ _ (omega arith) (omega arith) c.index-names-at.is c.loop-at.invariant c.in_ok-push_id.ensures

pub returns : goal.returns
returns c =
    sym (append-nil c.loop-at.ids.items)
    ∙ (ap (λ ys. c.loop-at.ids.items ++ ys) (sym (none_left c.args.heap.now c.args.number c.args.names.now c.args.values.now c.loop-at.at (omega arith))) ∙ c.loop-at.invariant)
