use Rattle.std.proofs.Common.{arith, slice_index_or}
use Rattle.fixture_instances.proofs.Spent.{given_up_more, front_more, one_spent, spent_more}
use Rattle.fixture_instances.proofs.live.give_up_each.Goals as goal

pub loop-one-preserved : goal.loop-one-preserved
loop-one-preserved g c =
    let e = one_spent (slice_index_or c.loop-one.kept c.loop-one.one-index c.one-item.result) c.take.new.self c.take.ensures.after in
    record {
      same = spent_more c.loop-one.kept c.args.kept.now c.loop-one.one-index c.one-item.result _ (omega arith) e c.loop-one.invariant.same;
      front = front_more c.loop-one.kept c.loop-one.one-index c.one-item.result _ (omega arith) e c.loop-one.invariant.front;
      world = given_up_more g.W.Executor.given_up c.loop-one.kept c.loop-one.one-index c.one-item.result _ c.take.result c.loop-one.world c.give_up.new.world _ (omega arith) c.take.ensures.value c.give_up.ensures c.loop-one.invariant.world;
    }
