use Rattle.std.proofs.Common.{◌≡◌, ◌++◌, drop}
use Rattle.fixture_definitions.specs.Tests.{used_among}
use Rattle.fixture_definitions.proofs.found_tests.used_among.Given as goal

abbrev pub invariant-loop-v : goal.invariant-loop-v
invariant-loop-v l = l.names ++ used_among l.heap (drop l.v-index l.marks) ≡ used_among l.heap l.marks
