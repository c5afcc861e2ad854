use Rattle.std.proofs.Common.{◌≡◌, length}
use Rattle.fixture_tests.proofs.table.closed.Given as goal

abbrev pub invariant-loop-row : goal.invariant-loop-row
invariant-loop-row l = length l.table.nodes ≡ 6
