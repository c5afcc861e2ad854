use Rattle.std.proofs.Common.{◌∙◌, sym, ap}
use Rattle.std.specs.Option.{option_map}
use Rattle.session_types.specs.Live.{instance_by_number}
use Rattle.fixture_instances.specs.Joined.{with_slot}
use Rattle.fixture_instances.proofs.Pairing.{got_bare}
use Rattle.fixture_instances.proofs.live.LiveFixtures.get.Goals as goal

pub returns : goal.returns
returns g c =
    sym (ap (λ v. option_map (with_slot c.get.result.now.slot) (instance_by_number c.args.id.order v.live)) c.self.view_is)
    ∙ got_bare c.args.id.order c.get.result.now c.self.inside.chains.live c.self.inside.kept.items c.self.invariant.pairs c.get.ensures
