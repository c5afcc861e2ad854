use Rattle.std.proofs.Common.{◌≡◌, ℕ, ◌<◌, ◌++◌, length, get_or}
use Rattle.fixture_table.specs.Tree.{iter_parents}
use Rattle.fixture_table.proofs.closing.chain_up.Given as goal

abbrev pub invariant-loop-at : goal.invariant-loop-at
invariant-loop-at l = record {
  within : l.at < length l.nodes;
  same : l.chain.items ++ iter_parents l.nodes l.at ≡ iter_parents l.nodes l.item;
  below : (q : ℕ) → q < length l.chain.items → get_or l.chain.items q 0 < length l.nodes;
}

abbrev pub decreases-loop-at : goal.decreases-loop-at
decreases-loop-at l = l.at
