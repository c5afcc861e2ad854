use Rattle.std.proofs.Common.{arith}
use Rattle.py_operands.specs.Sequences.{repeat}
use Rattle.py_operands.proofs.Repeating.{repeat_turn}
use Rattle.py_operands.proofs.sequences.repeat.Goals as goal

pub loop-preserved : goal.loop-preserved
loop-preserved g c =
    rw c.in_ok-extend_from_slice.ensures.items
    (repeat_turn c.loop.items.items c.args.xs.now (repeat c.args.times c.args.xs.now) c.args.times c.loop.counter (omega arith) c.loop.invariant)
