use Rattle.std.proofs.Common.{arith}
use Rattle.collect_items.proofs.Numbers.{numbered_on}
use Rattle.collect_items.proofs.nodes.numbered.Goals as goal

pub loop-test-preserved : goal.loop-test-preserved
loop-test-preserved c =
    numbered_on c.args.tests.now c.loop-test.test-index _ _ c.test-item.result _ _ _ (omega arith) c.test-item.is c.loop-test.invariant c.in_ok-push_names.ensures c.in_ok-more.ensures
