use Rattle.std.proofs.Common.{◌≡◌, ◌++◌, drop}
use Rattle.std.specs.Prelude.{map}
use Rattle.runtest_rules.specs.Failures.{failure_told}
use Rattle.runtest_rules.proofs.phases.failures_told.Given as goal

abbrev pub invariant-loop-failure : goal.invariant-loop-failure
invariant-loop-failure l = l.tolds.items ++ map (failure_told l.world) (drop l.failure-index l.raised) ≡ map (failure_told l.world) l.raised
