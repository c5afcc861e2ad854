use Rattle.std.proofs.Common.{◌≡◌, ◌++◌, map, take}
use Rattle.param_rows.specs.Rows.{set_choice}
use Rattle.param_rows.specs.Steps.{with_choice}
use Rattle.param_rows.proofs.joining.RowMaker.push_set.Given as goal

abbrev pub invariant-loop-row : goal.invariant-loop-row
invariant-loop-row g l = l.rows.items ≡ l.initial.rows.items ++ map (with_choice l.self.named (set_choice l.names l.set)) (take l.row-index l.rest)
