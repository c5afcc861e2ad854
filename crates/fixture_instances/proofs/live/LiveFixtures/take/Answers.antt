use Rattle.std.proofs.Common.{ap, refl, arith}
use Rattle.fixture_instances.proofs.Pairing.{below_without, got_both, kept_some, pairs_without, rising_kept, without_joined}
use Rattle.fixture_instances.proofs.live.LiveFixtures.take.Goals as goal

pub take_kept-slot-requires-clause-some : goal.take_kept-slot-requires-clause-some
take_kept-slot-requires-clause-some g c = rw c.order.ensures (kept_some c.args.id.order c.unlink-bare.result c.self.inside.chains.live c.self.inside.kept.items c.self.invariant.pairs c.unlink-bare.ensures.value)

pub take_kept-slot-requires-clause-rising : goal.take_kept-slot-requires-clause-rising
take_kept-slot-requires-clause-rising g c = rising_kept c.self.inside.chains.live c.self.inside.kept.items c.self.invariant.pairs c.is_in_order.ensures.rising

pub invariant_of-self : goal.invariant_of-self
invariant_of-self g c =
    record {
      pairs = rw (c.unlink-bare.ensures.taken, c.take_kept-slot.ensures.items, c.order.ensures) (pairs_without c.args.id.order c.self.inside.chains.live c.self.inside.kept.items c.self.invariant.pairs);
      below = rw c.unlink-bare.ensures.taken (below_without c.self.inside.next c.args.id.order c.self.inside.chains.live c.self.invariant.below);
      chained = omega (arith, ap (λ v. v.spare) c.unlink-bare.ensures.taken, c.self.invariant.chained);
      room = omega (arith, c.take_kept-slot.ensures.fewer, c.take_kept-slot.ensures.room, c.self.invariant.room);
    }

pub returns-clause-value : goal.returns-clause-value
returns-clause-value g c =
    let v = rw c.order.ensures at c.take_kept-slot.ensures.value in
    rw (← c.self.view_is) (got_both c.args.id.order c.unlink-bare.result c.take_kept-slot.result c.self.inside.chains.live c.self.inside.kept.items c.self.invariant.pairs c.unlink-bare.ensures.value v)

pub returns-clause-taken : goal.returns-clause-taken
returns-clause-taken g c =
    rw (c.unlink-bare.ensures.taken, c.take_kept-slot.ensures.items, c.order.ensures, ← without_joined c.args.id.order c.self.inside.chains.live c.self.inside.kept.items c.self.invariant.pairs, ← c.self.view_is) refl
