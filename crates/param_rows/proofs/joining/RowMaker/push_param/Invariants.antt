use Rattle.std.proofs.Common.{◌≡◌, ◌++◌, map, take}
use Rattle.param_rows.specs.Rows.{param_choice}
use Rattle.param_rows.specs.Steps.{with_choice}
use Rattle.param_rows.proofs.joining.RowMaker.push_param.Given as goal

abbrev pub invariant-loop-row : goal.invariant-loop-row
invariant-loop-row g l = l.rows.items ≡ l.initial.rows.items ++ map (with_choice l.self.named (param_choice l.param.0 (l.param.1, l.id))) (take l.row-index l.rest)
