use Rattle.std.proofs.Common.{◌≡◌, map, take}
use Rattle.std.specs.List.{flat_map}
use Rattle.param_rows.specs.Rows.{set_choice}
use Rattle.param_rows.specs.Steps.{with_choice}
use Rattle.param_rows.proofs.joining.RowMaker.with_mark.Given as goal

abbrev pub invariant-loop-set : goal.invariant-loop-set
invariant-loop-set g l = l.rows.items ≡ flat_map (λ choice. map (with_choice l.self.named choice) l.rest) (map (set_choice l.mark.names) (take l.set-index l.mark.sets))
