use Rattle.std.proofs.Common.{◌≡◌, ◌++◌, drop, length, map}
use Rattle.fixture_table.specs.Closing.{asked_all, entry_at}
use Rattle.fixture_table.specs.Marks.{Below}
use Rattle.fixture_table.specs.Nearest.{def_at}
use Rattle.fixture_table.proofs.closing.View.places_of.Given as goal

abbrev pub invariant-loop-name : goal.invariant-loop-name
invariant-loop-name l = record {
  items : l.name-items ≡ (def_at l.self.defs.now l.place).args;
  same : map (entry_at l.entries) l.row ++ asked_all l.self.nodes.now l.self.defs.now l.self.item l.self.bound.now l.place (drop l.name-index l.name-items) ≡ asked_all l.self.nodes.now l.self.defs.now l.self.item l.self.bound.now l.place (def_at l.self.defs.now l.place).args;
  below : Below l.row (length l.entries);
}
