use Rattle.std.proofs.Common.{List}
use Rattle.fixture_table.specs.declared.entry.Entry.{Entry}
use Rattle.fixture_table.specs.Closing.{Known, Grown}
use Rattle.fixture_table.proofs.closing.View.grow.Given as goal

abbrev pub invariant-loop-place : goal.invariant-loop-place
invariant-loop-place l = record {
  whole : (end : List Entry) → Grown l.self.nodes.now l.self.defs.now l.self.item l.self.bound.now l.entries.items l.place end → Grown l.self.nodes.now l.self.defs.now l.self.item l.self.bound.now l.fn.entries.items 0 end;
  known : Known l.self.defs.now l.entries.items;
}
