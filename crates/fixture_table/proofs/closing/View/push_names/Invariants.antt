use Rattle.std.proofs.Common.{◌≡◌, drop}
use Rattle.fixture_table.specs.Closing.{Known, with_unseen, entries_for}
use Rattle.fixture_table.proofs.closing.View.push_names.Given as goal

abbrev pub invariant-loop-name : goal.invariant-loop-name
invariant-loop-name l = record {
  same : with_unseen (entries_for l.self.nodes.now l.self.defs.now l.self.item l.self.bound.now (drop l.name-index l.names)) l.entries.items ≡ with_unseen (entries_for l.self.nodes.now l.self.defs.now l.self.item l.self.bound.now l.names) l.fn.entries.items;
  known : Known l.self.defs.now l.entries.items;
}
