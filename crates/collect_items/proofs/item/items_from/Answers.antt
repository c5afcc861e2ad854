use Rattle.std.proofs.Common.{arith}
use Rattle.collect_items.specs.Items.{fixtures_with}
use Rattle.collect_items.proofs.Numbers.{items_on}
use Rattle.collect_items.proofs.item.items_from.Goals as goal

pub loop-one-preserved : goal.loop-one-preserved
loop-one-preserved c =
    record {
      node = omega (arith, c.in_ok-behind.ensures, c.loop-one.invariant.node);
      items = items_on c.args.heap.now c.args.walk.now (fixtures_with c.args.table.now c.args.names.now c.args.definitions.now) c.args.all.now c.loop-one.one-index _ _ c.one-item.result _ _ _ (omega arith) c.one-item.is c.loop-one.invariant.items c.in_ok-push_item.ensures c.in_ok-behind.ensures;
    }
