use Rattle.collect_items.proofs.Places.{with_popped}
use Rattle.collect_items.proofs.nodes.by_place.Goals as goal

pub loop-place-preserved : goal.loop-place-preserved
loop-place-preserved c =
    with_popped _ _ _ c.in-Some.place c.in-Some.file _ _ _ c.pop.ensures.items c.in-Some.is c.loop-place.invariant c.set.ensures
