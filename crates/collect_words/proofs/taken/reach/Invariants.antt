use Rattle.std.proofs.Common.{◌≡◌, ◌+◌, ◌-◌, ℕ, false, get_or}
use Rattle.std.specs.Prelude.{vec_len}
use Rattle.collect_words.proofs.taken.reach.Given as goal

abbrev pub invariant-loop-marks : goal.invariant-loop-marks
invariant-loop-marks l = (place : ℕ) → get_or l.marks.items place false ≡ get_or l.initial.marks.items place false

abbrev pub decreases-loop-marks : goal.decreases-loop-marks
decreases-loop-marks l = l.number + 1 - vec_len l.marks
