use Rattle.std.proofs.Common.{arith, ap, refl}
use Rattle.live_chains.proofs.Listed.{unlinked}
use Rattle.live_chains.proofs.plain.PlainChains.unlink.Goals as goal

pub invariant_of-self : goal.invariant_of-self
invariant_of-self c = (
  (unlinked c.args.number c.place_of-place.result c.args.self.now.live _ _ _ c.remove.result (ap (λ v. v.live) c.self.view_is) c.deref.ensures.value c.self.invariant.0 c.place_of-place.ensures.within c.place_of-place.ensures.at c.remove.ensures.items c.remove.ensures.value).rising,
  omega (arith, c.remove.ensures.capacity, c.remove.ensures.len, c.self.invariant.1),
)

pub returns-clause-value : goal.returns-clause-value
returns-clause-value c = (unlinked c.args.number c.place_of-place.result c.args.self.now.live _ _ _ c.remove.result (ap (λ v. v.live) c.self.view_is) c.deref.ensures.value c.self.invariant.0 c.place_of-place.ensures.within c.place_of-place.ensures.at c.remove.ensures.items c.remove.ensures.value).value

pub returns-clause-taken : goal.returns-clause-taken
returns-clause-taken c =
    let u = unlinked c.args.number c.place_of-place.result c.args.self.now.live _ _ _ c.remove.result (ap (λ v. v.live) c.self.view_is) c.deref.ensures.value c.self.invariant.0 c.place_of-place.ensures.within c.place_of-place.ensures.at c.remove.ensures.items c.remove.ensures.value in
    rw (u.after, ap (λ v. v.spare) c.self.view_is) refl
