use Rattle.std.proofs.Common.{◌∙◌, sym, ap, subst, List}
use Rattle.session_types.specs.Members.{IsMember}
use Rattle.session_types.specs.Live.{dependents, down_order, instance_numbers}
use Rattle.live_chains.specs.declared.id.LiveId.{LiveId}
use Rattle.fixture_instances.proofs.Pairing.{dependents_joined}
use Rattle.fixture_instances.proofs.live.LiveFixtures.dependents_of.Goals as goal

pub returns-clause-same : goal.returns-clause-same
returns-clause-same g c =
    c.in_ok-ids.ensures.same
    ∙ (sym (dependents_joined c.args.id.order c.self.inside.chains.live c.self.inside.kept.items c.self.invariant.pairs) ∙ ap (λ v. instance_numbers (down_order (dependents c.args.id.order v.live))) c.self.view_is)

pub returns-clause-live : goal.returns-clause-live
returns-clause-live g c = λ i h. subst (λ (l : List LiveId). IsMember i l) (ap (λ v. v.ids) c.self.view_is) (c.in_ok-ids.ensures.live i h)
