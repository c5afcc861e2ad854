use Rattle.std.proofs.Common.{◌≡◌, drop, find}
use Rattle.fixture_table.specs.Nearest.{def_at}
use Rattle.fixture_table.specs.Faults.{is_narrower, first_narrower}
use Rattle.fixture_table.proofs.closing.View.first_narrower.Given as goal

abbrev pub invariant-loop-name : goal.invariant-loop-name
invariant-loop-name l = record {
  items : l.name-items ≡ (def_at l.self.defs.now l.place).args;
  same : find (is_narrower l.self.nodes.now l.self.defs.now l.self.item l.self.bound.now l.place) (drop l.name-index l.name-items) ≡ first_narrower l.self.nodes.now l.self.defs.now l.self.item l.self.bound.now l.place;
}
