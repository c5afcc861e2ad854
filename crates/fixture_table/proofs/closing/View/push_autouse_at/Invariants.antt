use Rattle.std.proofs.Common.{◌≡◌, drop}
use Rattle.fixture_table.specs.Closing.{Known, with_unseen, entries_for, autouse_at}
use Rattle.fixture_table.specs.Index.{autouse_names}
use Rattle.fixture_table.specs.Marks.{row_of}
use Rattle.fixture_table.proofs.closing.View.push_autouse_at.Given as goal

abbrev pub invariant-loop-place : goal.invariant-loop-place
invariant-loop-place l = record {
  items : l.place-items ≡ row_of l.self.at_nodes.now l.node;
  same : with_unseen (entries_for l.self.nodes.now l.self.defs.now l.self.item l.self.bound.now (autouse_names l.self.defs.now (drop l.place-index l.place-items))) l.entries.items ≡ with_unseen (entries_for l.self.nodes.now l.self.defs.now l.self.item l.self.bound.now (autouse_at l.self.defs.now l.node)) l.fn.entries.items;
  known : Known l.self.defs.now l.entries.items;
}
