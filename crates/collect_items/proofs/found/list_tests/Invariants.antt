use Rattle.std.proofs.Common.{◌≡◌, ◌++◌, drop}
use Rattle.fixture_definitions.specs.Tests.{all_tests}
use Rattle.collect_items.proofs.found.list_tests.Given as goal

abbrev pub invariant-loop-one : goal.invariant-loop-one
invariant-loop-one l = l.all.items ++ all_tests l.heap (drop l.one-index l.placed) ≡ all_tests l.heap l.placed
