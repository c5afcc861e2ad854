use Rattle.std.proofs.Common.{◌≡◌, map}
use Rattle.fixture_calls.specs.Hooks.{failure_thrown}
use Rattle.test_session.proofs.error.all_thrown.Given as goal

abbrev pub invariant-loop-failure : goal.invariant-loop-failure
invariant-loop-failure l = l.thrown ≡ map failure_thrown l.yielded
