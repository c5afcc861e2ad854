use Rattle.std.proofs.Common.{◌∙◌, sym, ap}
use Rattle.std.specs.Option.{option_map}
use Rattle.session_types.specs.Live.{find, instance_number}
use Rattle.fixture_instances.proofs.Pairing.{find_number}
use Rattle.fixture_instances.proofs.live.LiveFixtures.find.Goals as goal

pub returns-clause-same : goal.returns-clause-same
returns-clause-same g c =
    c.find.ensures.same
    ∙ (sym (find_number c.args.def c.args.node c.self.inside.chains.live c.self.inside.kept.items c.self.invariant.pairs) ∙ ap (λ v. option_map instance_number (find c.args.def c.args.node v.live)) c.self.view_is)
