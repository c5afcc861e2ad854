use Rattle.std.proofs.Common.{◌≡◌, ◌<◌, ◌++◌, length}
use Rattle.fixture_table.specs.Tree.{iter_parents}
use Rattle.fixture_instances.proofs.items.chain_of.Given as goal

abbrev pub invariant-loop-at : goal.invariant-loop-at
invariant-loop-at l = record {
  within : l.at < length l.table.nodes;
  same : l.chain.items ++ iter_parents l.table.nodes l.at ≡ iter_parents l.table.nodes l.item;
}

abbrev pub decreases-loop-at : goal.decreases-loop-at
decreases-loop-at l = l.at
