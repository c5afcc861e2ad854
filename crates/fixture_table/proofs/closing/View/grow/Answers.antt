use Rattle.std.proofs.Common.{arith}
use Rattle.fixture_table.specs.Closing.{Done}
use Rattle.fixture_table.proofs.Grows.{grown_more}
use Rattle.fixture_table.proofs.closing.View.grow.Goals as goal

pub returns-then-place-len-clause-ok : goal.returns-then-place-len-clause-ok
returns-then-place-len-clause-ok c = c.loop-place.invariant.whole _ (Done _ _ (omega (arith, c.loop-place.entries.ok.0)))

pub loop-place-preserved : goal.loop-place-preserved
loop-place-preserved c = record {
  whole = λ end g. c.loop-place.invariant.whole end (grown_more c.args.self.now.nodes.now c.args.self.now.defs.now c.args.self.now.item c.args.self.now.bound.now c.loop-place.entries.items c.loop-place.place end
      (omega (arith, c.loop-place.entries.ok.0)) (rw c.in_ok-grow_at.ensures.ok at g));
  known = c.in_ok-grow_at.ensures.known;
}

pub returns-clause-ok : goal.returns-clause-ok
returns-clause-ok c = c.loop-place.invariant.whole _ (Done _ _ (omega (arith, c.loop-place.entries.ok.0, c.loop-place.entries.small)))
