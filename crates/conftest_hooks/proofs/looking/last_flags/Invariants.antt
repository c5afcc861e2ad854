use Rattle.std.proofs.Common.{◌≡◌, length}
use Rattle.conftest_hooks.specs.Reading.{last_flags}
use Rattle.conftest_hooks.proofs.looking.last_flags.Given as goal

abbrev pub invariant-marks : goal.invariant-marks
invariant-marks l = last_flags l.heap l.last l.rest ≡ last_flags l.heap l.fn.flags l.marks

abbrev pub decreases-marks : goal.decreases-marks
decreases-marks l = length l.rest
