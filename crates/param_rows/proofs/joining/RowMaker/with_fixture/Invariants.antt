use Rattle.std.proofs.Common.{◌≡◌, map, take}
use Rattle.std.specs.List.{flat_map, enumerate_from}
use Rattle.param_rows.specs.Rows.{param_choice}
use Rattle.param_rows.specs.Steps.{with_choice}
use Rattle.param_rows.proofs.joining.RowMaker.with_fixture.Given as goal

abbrev pub invariant-loop-number : goal.invariant-loop-number
invariant-loop-number g l = l.rows.items ≡ flat_map (λ choice. map (with_choice l.self.named choice) l.rest) (map (param_choice l.fixture) (take l.number (enumerate_from 0 l.ids)))
