use Rattle.std.proofs.Common.{arith}
use Rattle.collect_params.proofs.Steps.{sets_on}
use Rattle.collect_params.proofs.sets.sets_of.Goals as goal

pub loop-place-preserved : goal.loop-place-preserved
loop-place-preserved c =
    sets_on c.args.heap.now c.args.single c.args.ids.now c.args.rows.now c.loop-place.place _ _ _ _ (omega arith) c.loop-place.invariant c.in_ok-push_set.ensures
