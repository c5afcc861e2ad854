use Rattle.std.proofs.Common.{◌≡◌, ◌≤◌, length, drop}
use Rattle.param_rows.specs.Rows.{choice_lists}
use Rattle.param_rows.specs.Steps.{rows_in}
use Rattle.param_rows.proofs.joining.RowMaker.rows_of.Given as goal

abbrev pub invariant-loop-at : goal.invariant-loop-at
invariant-loop-at g l = (l.at ≤ length l.fixtures) × (l.rows.items ≡ rows_in l.self.named (choice_lists (drop l.at l.fixtures) l.marks))

abbrev pub decreases-loop-at : goal.decreases-loop-at
decreases-loop-at g l = l.at
