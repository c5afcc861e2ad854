use Rattle.std.proofs.Common.{◌∙◌, sym, ap, subst, List}
use Rattle.session_types.specs.Members.{IsMember}
use Rattle.session_types.specs.Live.{down_order, not_on, instance_numbers}
use Rattle.live_chains.specs.declared.id.LiveId.{LiveId}
use Rattle.fixture_instances.proofs.Pairing.{not_on_joined}
use Rattle.fixture_instances.proofs.live.LiveFixtures.off_of.Goals as goal

pub returns-clause-same : goal.returns-clause-same
returns-clause-same g c =
    c.in_ok-ids.ensures.same
    ∙ (sym (not_on_joined c.args.chain.now c.self.inside.chains.live c.self.inside.kept.items c.self.invariant.pairs) ∙ ap (λ v. instance_numbers (down_order (not_on c.args.chain.now v.live))) c.self.view_is)

pub returns-clause-live : goal.returns-clause-live
returns-clause-live g c = λ i h. subst (λ (l : List LiveId). IsMember i l) (ap (λ v. v.ids) c.self.view_is) (c.in_ok-ids.ensures.live i h)
