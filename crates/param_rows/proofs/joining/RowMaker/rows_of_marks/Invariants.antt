use Rattle.std.proofs.Common.{◌≡◌, ◌≤◌, length, map, drop}
use Rattle.param_rows.specs.Rows.{mark_choices}
use Rattle.param_rows.specs.Steps.{rows_in}
use Rattle.param_rows.proofs.joining.RowMaker.rows_of_marks.Given as goal

abbrev pub invariant-loop-at : goal.invariant-loop-at
invariant-loop-at g l = (l.at ≤ length l.marks) × (l.rows.items ≡ rows_in l.self.named (map mark_choices (drop l.at l.marks)))

abbrev pub decreases-loop-at : goal.decreases-loop-at
decreases-loop-at g l = l.at
