use Rattle.std.proofs.Common.{◌++◌, ◌∷◌, [], get_or, arith, ◌∙◌, sym, ap}
use Rattle.param_rows.proofs.Zipped.{zip_more, zip_all}
use Rattle.param_rows.proofs.joining.bound.Goals as goal

pub loop-at-preserved : goal.loop-at-preserved
loop-at-preserved g c =
    c.in_ok-push.ensures.items
    ∙ ap (λ ps. ps ++ (get_or c.args.names.now c.loop-at.at 0, c.index-values-at.result) ∷ []) c.loop-at.invariant
    ∙ sym (zip_more c.args.names.now c.args.values.now c.loop-at.at c.index-values-at.result (omega arith) (omega arith) c.index-values-at.is)

pub returns : goal.returns
returns g c = c.loop-at.invariant ∙ zip_all c.args.names.now c.args.values.now c.loop-at.at (omega arith)
