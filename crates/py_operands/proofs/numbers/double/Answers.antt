use Rattle.std.proofs.Common.{arith, ◌<◌, ◌≡◌, ◌-◌, ◌+◌, ◌^◌, pos, ◌*ℤ◌, to_z}
use Rattle.std.specs.Int.{w128}
use Rattle.std.proofs.lemmas.Int.{to_z-of_z}
use Rattle.py_operands.proofs.Powers.{double, overflow}
use Rattle.py_operands.proofs.numbers.double.Goals as goal

pub returns-in-None : goal.returns-in-None
returns-in-None c =
    let lt : c.loop.counter < c.args.times = omega arith in
    let now : c.args.x *ℤ pos (2 ^ c.args.times) ≡ to_z w128 c.loop.doubled-bits *ℤ pos (2 ^ (c.args.times - c.loop.counter)) =
    rw (to_z-of_z w128 c.args.x c.ranges.x) at c.loop.invariant in
    rw (now, double (to_z w128 c.loop.doubled-bits) c.args.times c.loop.counter lt)
    (overflow (to_z w128 c.loop.doubled-bits *ℤ pos 2) (c.args.times - (c.loop.counter + 1)) c.in-None.ensures)
