use Rattle.std.proofs.Common.{arith}
use Rattle.collect_fixtures.specs.Closures.{asks_for}
use Rattle.collect_fixtures.proofs.Steps.{flat_on}
use Rattle.collect_fixtures.proofs.closures.asked_for_all.Goals as goal

pub loop-name-preserved : goal.loop-name-preserved
loop-name-preserved c =
    flat_on (asks_for c.args.table.now c.args.names.now c.args.item c.args.bound.now) c.args.some.now c.loop-name.name-index c.name-item.result _ _ _ (omega arith) c.name-item.is c.loop-name.invariant c.in_ok-push_asked.ensures
