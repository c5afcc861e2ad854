use Rattle.std.proofs.Common.{◌∷◌, [], ◌++◌, ap, ◌∙◌, arith}
use Rattle.param_rows.specs.Rows.{param_choice}
use Rattle.param_rows.specs.Steps.{with_choice}
use Rattle.param_rows.proofs.Product.{pushed_more}
use Rattle.param_rows.proofs.joining.RowMaker.push_param.Goals as goal

pub loop-row-preserved : goal.loop-row-preserved
loop-row-preserved g c =
    pushed_more (with_choice c.args.self.now.named (param_choice c.args.param.0 (c.args.param.1, c.args.id.now))) c.args.rest.now c.loop-row.row-index c.row-item.result c.args.rows.now.items c.loop-row.rows.items c.push.new.self.items (omega arith) c.row-item.is c.loop-row.invariant
    (c.in_ok-push.ensures.items ∙ ap (λ row. c.loop-row.rows.items ++ row ∷ []) c.in_ok-with_param.ensures)
