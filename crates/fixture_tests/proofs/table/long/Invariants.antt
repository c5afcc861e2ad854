use Rattle.std.proofs.Common.{◌≡◌, length}
use Rattle.fixture_tests.proofs.table.long.Given as goal

abbrev pub invariant-loop-name : goal.invariant-loop-name
invariant-loop-name l = length l.table.nodes ≡ 1
