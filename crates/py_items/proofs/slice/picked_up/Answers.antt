use Rattle.std.proofs.Common.{arith, ◌-◌, ◌+◌}
use Rattle.py_items.specs.Items.{picked_up}
use Rattle.py_items.proofs.Picking.{up_turn, up_end}
use Rattle.py_items.proofs.slice.picked_up.Goals as goal

pub returns-then-at-xs : goal.returns-then-at-xs
returns-then-at-xs g c =
    up_end c.loop.picked.items c.args.xs.now (picked_up c.args.xs.now c.args.start c.args.step c.args.count) c.loop.at c.args.step (c.args.count - c.loop.counter) (omega arith) c.loop.invariant

pub loop-preserved : goal.loop-preserved
loop-preserved g c =
    rw c.in_ok-push_at.ensures
    (up_turn c.loop.picked.items c.args.xs.now (picked_up c.args.xs.now c.args.start c.args.step c.args.count) c.loop.at c.args.step c.args.count c.loop.counter (omega arith) c.loop.invariant)
