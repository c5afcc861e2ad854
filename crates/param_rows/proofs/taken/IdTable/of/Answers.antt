use Rattle.std.proofs.Common.{arith}
use Rattle.param_rows.proofs.Tables.{tells_on, tells_all}
use Rattle.param_rows.proofs.taken.IdTable.of.Goals as goal

pub loop-id-preserved : goal.loop-id-preserved
loop-id-preserved c = tells_on c.args.ids.now c.loop-id.id-index c.id-item.result _ _ (omega arith) c.id-item.is c.loop-id.invariant c.in_ok-give.ensures

pub returns : goal.returns
returns c = tells_all c.args.ids.now c.loop-id.id-index _ (omega arith) c.loop-id.invariant
