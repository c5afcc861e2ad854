use Rattle.std.proofs.Common.{◌≡◌, ◌++◌, drop, map}
use Rattle.test_session.specs.Collections.{fixture_function}
use Rattle.test_session.proofs.hooks.push_functions.Given as goal

abbrev pub invariant-loop-fixture : goal.invariant-loop-fixture
invariant-loop-fixture l = l.codes ++ map fixture_function (drop l.fixture-index l.fixtures) ≡ l.initial.codes ++ map fixture_function l.fixtures
