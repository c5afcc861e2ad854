use Rattle.std.proofs.Common.{ap, arith, sym, subst, List, ℕ, ◌<◌}
use Rattle.session_types.specs.Members.{IsMember}
use Rattle.session_types.specs.declared.instance.Instance.{Instance}
use Rattle.live_chains.proofs.Listed.{Rising-push}
use Rattle.live_chains.proofs.plain.PlainChains.link.Goals as goal

pub invariant_of-self : goal.invariant_of-self
invariant_of-self c = (
  rw (c.push.ensures.items, c.unwrap.ensures) (Rising-push c.self.inside.live.items c.args.instance c.self.invariant.0
      (subst (λ (x : List (Instance ℕ)). (j : Instance ℕ) → IsMember j x → j.order < c.args.instance.order) (sym (ap (λ v. v.live) c.self.view_is)) c.requires.latest)),
  omega (arith, c.push.ensures.capacity, c.push.ensures.upper_bound, c.self.invariant.1, c.requires.room, ap (λ v. v.spare) c.self.view_is),
)
