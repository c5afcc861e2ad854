use Rattle.std.proofs.Common.{◌≡◌, length}
use Rattle.py_literals.specs.Numbers.{is_run}
use Rattle.py_literals.proofs.number.is_run.Given as goal

abbrev pub invariant-loop-rest : goal.invariant-loop-rest
invariant-loop-rest l = is_run l.base l.rest ≡ is_run l.base l.digits

abbrev pub decreases-loop-rest : goal.decreases-loop-rest
decreases-loop-rest l = length l.rest
