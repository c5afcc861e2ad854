use Rattle.fixture_instances.proofs.Spent.{kept_spent}
use Rattle.fixture_instances.proofs.live.LiveFixtures.close.Goals as goal

pub end_kept-requires : goal.end_kept-requires
end_kept-requires g c = kept_spent c.self.inside.chains.live c.self.inside.kept.items c.self.invariant.pairs (rw (← c.self.view_is) at c.requires)
