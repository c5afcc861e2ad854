use Rattle.std.proofs.Common.{◌≡◌, drop}
use Rattle.fixture_table.specs.Nearest.{def_at}
use Rattle.fixture_table.specs.Closing.{Known, with_unseen, asked_all}
use Rattle.fixture_table.proofs.closing.View.push_asked.Given as goal

abbrev pub invariant-loop-name : goal.invariant-loop-name
invariant-loop-name l = record {
  items : l.name-items ≡ (def_at l.self.defs.now l.place).args;
  same : with_unseen (asked_all l.self.nodes.now l.self.defs.now l.self.item l.self.bound.now l.place (drop l.name-index l.name-items)) l.entries.items ≡ with_unseen (asked_all l.self.nodes.now l.self.defs.now l.self.item l.self.bound.now l.place (def_at l.self.defs.now l.place).args) l.fn.entries.items;
  known : Known l.self.defs.now l.entries.items;
}
