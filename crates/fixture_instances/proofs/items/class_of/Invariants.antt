use Rattle.std.proofs.Common.{◌≡◌, ◌<◌, length}
use Rattle.fixture_table.specs.Tree.{iter_parents}
use Rattle.fixture_instances.specs.Items.{inmost, is_class}
use Rattle.fixture_instances.proofs.items.class_of.Given as goal

abbrev pub invariant-up : goal.invariant-up
invariant-up l = record {
  within : l.at < length l.table.nodes;
  same : inmost is_class l.table.nodes l.item (iter_parents l.table.nodes l.at) ≡ inmost is_class l.table.nodes l.item (iter_parents l.table.nodes l.item);
}

abbrev pub decreases-up : goal.decreases-up
decreases-up l = l.at
