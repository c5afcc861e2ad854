use Rattle.std.proofs.Common.{◌-◌, List, map, ap, ◌∙◌, arith}
use Rattle.std.specs.List.{flat_map}
use Rattle.param_rows.specs.Rows.{mark_choices}
use Rattle.param_rows.specs.Steps.{with_choice}
use Rattle.param_rows.specs.declared.param.ParamRow.{ParamRow}
use Rattle.param_rows.proofs.Product.{rows_in_last}
use Rattle.param_rows.proofs.joining.RowMaker.rows_of_marks.Goals as goal

pub loop-at-preserved : goal.loop-at-preserved
loop-at-preserved g c = (
  omega (arith, c.loop-at.invariant.0),
  rows_in_last c.args.self.now.named mark_choices c.args.marks.now c.loop-at.at (c.loop-at.at - 1) c.index-marks-at.result c.loop-at.rows.items c.in_ok-rows-2.rows.items
      (omega (arith, c.loop-at.invariant.0)) (omega arith) c.index-marks-at.is c.loop-at.invariant.1
      (c.in_ok-rows-2.ensures ∙ ap (λ (rows : List (ParamRow _)). flat_map (λ choice. map (with_choice c.args.self.now.named choice) rows) (mark_choices c.index-marks-at.result)) c.deref.ensures.value),
)
