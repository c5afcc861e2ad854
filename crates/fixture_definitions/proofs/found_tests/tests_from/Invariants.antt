use Rattle.std.proofs.Common.{◌≡◌, map, take}
use Rattle.fixture_definitions.specs.Tests.{test_in}
use Rattle.fixture_definitions.proofs.found_tests.tests_from.Given as goal

abbrev pub invariant-loop-test : goal.invariant-loop-test
invariant-loop-test l = l.found.items ≡ map (test_in l.heap l.placed) (take l.test-index l.functions)
