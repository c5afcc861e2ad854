use Rattle.std.proofs.Common.{◌≡◌, ◌==◌, not, length, drop}
use Rattle.std.specs.Prelude.{find}
use Rattle.param_rows.proofs.checking.width_fault.Given as goal

abbrev pub invariant-loop-set : goal.invariant-loop-set
invariant-loop-set g l =
    find (λ set. not (length set.values == length l.mark.names)) (drop l.set-index l.mark.sets)
    ≡ find (λ set. not (length set.values == length l.mark.names)) l.mark.sets
