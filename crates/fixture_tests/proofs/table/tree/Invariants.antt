use Rattle.std.proofs.Common.{◌≡◌, ◌+◌, length}
use Rattle.fixture_tests.proofs.table.tree.Given as goal

abbrev pub invariant-loop-place : goal.invariant-loop-place
invariant-loop-place l = length l.table.nodes ≡ l.place + 1
