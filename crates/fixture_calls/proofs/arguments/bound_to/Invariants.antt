use Rattle.std.proofs.Common.{◌≡◌, drop}
use Rattle.fixture_calls.specs.Arguments.{bound_to}
use Rattle.fixture_calls.proofs.arguments.bound_to.Given as goal

abbrev pub invariant-loop-one : goal.invariant-loop-one
invariant-loop-one l = bound_to (drop l.one-index l.bound) l.name ≡ bound_to l.bound l.name
