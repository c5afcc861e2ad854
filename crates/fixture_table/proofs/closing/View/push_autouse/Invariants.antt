use Rattle.std.proofs.Common.{◌≡◌, ◌≤◌, drop, length}
use Rattle.fixture_table.specs.Closing.{Known, with_unseen, entries_for, autouse_up}
use Rattle.fixture_table.proofs.closing.View.push_autouse.Given as goal

abbrev pub invariant-loop-at : goal.invariant-loop-at
invariant-loop-at l = record {
  within : l.at ≤ length l.chain;
  same : l.entries.items ≡ with_unseen (entries_for l.self.nodes.now l.self.defs.now l.self.item l.self.bound.now (autouse_up l.self.defs.now (drop l.at l.chain))) l.fn.entries.items;
  known : Known l.self.defs.now l.entries.items;
}

abbrev pub decreases-loop-at : goal.decreases-loop-at
decreases-loop-at l = l.at
