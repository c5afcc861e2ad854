use Rattle.fixture_instances.proofs.Spent.{not_both, popped}
use Rattle.fixture_instances.proofs.live.end_kept.Goals as goal

pub unreachable-requires : goal.unreachable-requires
unreachable-requires g c = not_both c.in-Some.one.held.rest c.in-Some-rest.field-0 (popped c.rest.kept.items c.pop.new.self.items c.in-Some.one c.in-Some.ensures.items c.rest.invariant).1 c.in-Some-rest.is

pub rest-preserved-in-None : goal.rest-preserved-in-None
rest-preserved-in-None g c = (popped c.rest.kept.items c.pop.new.self.items c.in-Some.one c.in-Some.ensures.items c.rest.invariant).0

pub rest-preserved : goal.rest-preserved
rest-preserved g c = (popped c.rest.kept.items c.pop.new.self.items c.in-Some.one c.in-Some.ensures.items c.rest.invariant).0
