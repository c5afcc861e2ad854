use Rattle.std.proofs.Common.{◌≡◌, ◌++◌, drop}
use Rattle.std.specs.Prelude.{map}
use Rattle.fixture_calls.specs.Failing.{exception_of}
use Rattle.runtest_rules.proofs.phases.exceptions_of.Given as goal

abbrev pub invariant-loop-failure : goal.invariant-loop-failure
invariant-loop-failure l = l.values.items ++ map exception_of (drop l.failure-index l.raised) ≡ map exception_of l.raised
