use Rattle.std.proofs.Common.{◌≡◌, ◌∙◌, ℕ, sym, ap, refl, arith}
use Rattle.session_types.specs.declared.instance.Instance.{Instance}
use Rattle.session_types.specs.Live.{find}
use Rattle.fixture_instances.specs.Joined.{with_slot}
use Rattle.fixture_instances.proofs.Pairing.{below_in, below_push, find_none, joined_add, pairs_add}
use Rattle.fixture_instances.proofs.live.LiveFixtures.link.Goals as goal

pub link-id-requires-clause-latest : goal.link-id-requires-clause-latest
link-id-requires-clause-latest g c = λ j h. (let l = below_in c.self.inside.next j c.self.inside.chains.live c.self.invariant.below h in let e = ap (λ v. v.next) c.self.view_is in let o = c.requires.order in omega (arith, l, e, o))

pub link-id-requires-clause-free : goal.link-id-requires-clause-free
link-id-requires-clause-free g c = find_none c.args.instance.def c.args.instance.node c.self.inside.chains.live c.self.inside.kept.items c.self.invariant.pairs (ap (λ v. find c.args.instance.def c.args.instance.node v.live) c.self.view_is ∙ c.requires.free)

pub invariant_of-self : goal.invariant_of-self
invariant_of-self g c =
    let i : Instance ℕ = with_slot 0 c.args.instance in
    let e : c.args.instance.order ≡ c.self.inside.next = c.requires.order ∙ sym (ap (λ v. v.next) c.self.view_is) in
    record {
      pairs = rw (c.link-id.ensures.linked, c.push.ensures.items, c.unwrap.ensures) (pairs_add i c.args.instance.order c.args.instance.slot c.self.inside.chains.live c.self.inside.kept.items c.self.invariant.pairs refl);
      below = rw c.link-id.ensures.linked (below_push c.self.inside.next i c.self.inside.chains.live c.self.invariant.below e);
      chained = omega (arith, ap (λ v. v.spare) c.link-id.ensures.linked, c.self.invariant.chained);
      room = omega (arith, c.push.ensures.capacity, c.push.ensures.upper_bound, c.self.invariant.room, c.requires.room, ap (λ v. v.spare) c.self.view_is);
    }

pub returns-clause-linked : goal.returns-clause-linked
returns-clause-linked g c =
    let i : Instance ℕ = with_slot 0 c.args.instance in
    rw (c.link-id.ensures.linked, c.push.ensures.items, c.unwrap.ensures, joined_add i c.args.instance.order c.args.instance.slot c.self.inside.chains.live c.self.inside.kept.items c.self.invariant.pairs, ← c.self.view_is) refl
