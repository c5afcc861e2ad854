use Rattle.std.proofs.Common.{◌∙◌, sym}
use Rattle.fixture_instances.proofs.Pairing.{apart_joined, numbers_joined, rising_joined}
use Rattle.fixture_instances.proofs.live.LiveFixtures.is_in_order.Goals as goal

pub returns-clause-rising : goal.returns-clause-rising
returns-clause-rising g c = rw (← c.self.view_is) (rising_joined c.self.inside.chains.live c.self.inside.kept.items c.self.invariant.pairs c.is_in_order.ensures.rising)

pub returns-clause-named : goal.returns-clause-named
returns-clause-named g c = rw (← c.self.view_is) (c.is_in_order.ensures.named ∙ sym (numbers_joined c.self.inside.chains.live c.self.inside.kept.items c.self.invariant.pairs))

pub returns-clause-single : goal.returns-clause-single
returns-clause-single g c = rw (← c.self.view_is) (apart_joined c.self.inside.chains.live c.self.inside.kept.items c.self.invariant.pairs c.is_in_order.ensures.single)
