use Rattle.fixture_instances.proofs.Pairing.{taken_kept}
use Rattle.fixture_instances.proofs.live.take_kept.Goals as goal

pub returns-clause-value : goal.returns-clause-value
returns-clause-value g c = (taken_kept c.args.order c.place_of-place.result c.args.kept.now.items _ _ c.remove-held.result c.deref.ensures.value c.requires.rising c.place_of-place.ensures.within c.place_of-place.ensures.at c.remove-held.ensures.items c.remove-held.ensures.value).0

pub returns-clause-items : goal.returns-clause-items
returns-clause-items g c = (taken_kept c.args.order c.place_of-place.result c.args.kept.now.items _ _ c.remove-held.result c.deref.ensures.value c.requires.rising c.place_of-place.ensures.within c.place_of-place.ensures.at c.remove-held.ensures.items c.remove-held.ensures.value).1
