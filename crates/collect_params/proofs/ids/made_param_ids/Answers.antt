use Rattle.std.proofs.Common.{arith}
use Rattle.collect_params.proofs.Steps.{param_ids_on}
use Rattle.collect_params.proofs.ids.made_param_ids.Goals as goal

pub loop-number-preserved : goal.loop-number-preserved
loop-number-preserved c =
    param_ids_on c.args.heap.now c.args.name.now c.args.sets.now c.loop-number.number c.index-sets-number.result _ _ _ (omega arith) c.index-sets-number.is c.loop-number.invariant c.in_ok-push_param_id.ensures
