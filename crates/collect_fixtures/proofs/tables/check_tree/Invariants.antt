use Rattle.std.proofs.Common.{ℕ, ◌<◌}
use Rattle.fixture_table.specs.Tree.{parent_of}
use Rattle.collect_fixtures.proofs.tables.check_tree.Given as goal

abbrev pub invariant-loop-at : goal.invariant-loop-at
invariant-loop-at l = (q : ℕ) → 0 < q → q < l.at → parent_of l.nodes q < q
