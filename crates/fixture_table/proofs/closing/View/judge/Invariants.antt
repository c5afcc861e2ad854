use Rattle.fixture_table.specs.Faults.{SoundTo}
use Rattle.fixture_table.proofs.closing.View.judge.Given as goal

abbrev pub invariant-loop-at : goal.invariant-loop-at
invariant-loop-at l = record {
  sound : SoundTo l.self.nodes.now l.self.defs.now l.self.item l.self.bound.now l.entries l.at;
}
