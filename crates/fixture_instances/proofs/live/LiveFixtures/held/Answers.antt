use Rattle.fixture_instances.proofs.Pairing.{got_held, kept_some, rising_kept}
use Rattle.fixture_instances.proofs.live.LiveFixtures.held.Goals as goal

pub held_in-requires-clause-some : goal.held_in-requires-clause-some
held_in-requires-clause-some g c = rw (c.deref.ensures.value, c.order.ensures) (kept_some c.args.id.order c.get-one.result.now c.self.inside.chains.live c.self.inside.kept.items c.self.invariant.pairs c.get-one.ensures)

pub held_in-requires-clause-rising : goal.held_in-requires-clause-rising
held_in-requires-clause-rising g c = rw c.deref.ensures.value (rising_kept c.self.inside.chains.live c.self.inside.kept.items c.self.invariant.pairs c.is_in_order.ensures.rising)

pub returns : goal.returns
returns g c =
    let v = rw (c.deref.ensures.value, c.order.ensures) at c.held_in.ensures in
    rw (← c.self.view_is) (got_held c.args.id.order c.get-one.result.now c.held_in.result.now c.self.inside.chains.live c.self.inside.kept.items c.self.invariant.pairs c.get-one.ensures v)
