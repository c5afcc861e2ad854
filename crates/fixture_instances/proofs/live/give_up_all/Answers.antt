use Rattle.std.proofs.Common.{◌∙◌, ap, arith, map}
use Rattle.std.specs.Vec.{with_items}
use Rattle.std.proofs.lemmas.List.{with_items_is}
use Rattle.fixture_instances.specs.Resting.{spent_kept}
use Rattle.fixture_instances.proofs.Spent.{list_given, pairs_given, world_given}
use Rattle.fixture_instances.proofs.live.give_up_all.Goals as goal

pub invariant_of-live : goal.invariant_of-live
invariant_of-live g c =
    let e = with_items_is c.live.inside.kept c.give_up_each.new.kept (omega arith) ∙ (c.give_up_each.ensures.kept ∙ ap (map spent_kept) c.deref_mut.ensures.value) in
    record {
      pairs = pairs_given c.live.inside.chains.live c.live.inside.kept.items (with_items c.live.inside.kept c.give_up_each.new.kept).items e c.live.invariant.pairs;
      below = c.live.invariant.below;
      chained = c.live.invariant.chained;
      room = c.live.invariant.room;
    }

pub returns-clause-live : goal.returns-clause-live
returns-clause-live g c =
    let e = with_items_is c.live.inside.kept c.give_up_each.new.kept (omega arith) ∙ (c.give_up_each.ensures.kept ∙ ap (map spent_kept) c.deref_mut.ensures.value) in
    list_given c.live.inside.chains.live c.live.inside.chains.ids c.live.inside.kept.items (with_items c.live.inside.kept c.give_up_each.new.kept).items c.live.inside.spare c.live.inside.next c.args.live.now e c.live.view_is

pub returns-clause-world : goal.returns-clause-world
returns-clause-world g c =
    c.give_up_each.ensures.world
    ∙ world_given g.W.Executor.given_up c.live.inside.chains.live c.live.inside.chains.ids c.live.inside.kept.items c.deref_mut.result.now c.live.inside.spare c.live.inside.next c.args.live.now c.args.world.now c.deref_mut.ensures.value c.live.invariant.pairs c.live.view_is
