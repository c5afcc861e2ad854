use Rattle.std.proofs.Common.{arith, ◌-◌, ◌+◌}
use Rattle.py_items.specs.Items.{picked_down}
use Rattle.py_items.proofs.Picking.{down_turn}
use Rattle.py_items.proofs.slice.picked_down.Goals as goal

pub loop-preserved : goal.loop-preserved
loop-preserved g c =
    rw (c.in_ok-push_at.ensures, c.saturating_sub.ensures, c.saturating_sub-behind.ensures)
    (down_turn c.loop.picked.items c.args.xs.now (picked_down c.args.xs.now c.args.start c.args.step c.args.count) c.loop.behind c.args.step c.args.count c.loop.counter (omega arith) c.loop.invariant)
