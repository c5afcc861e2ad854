use Rattle.std.proofs.Common.{arith, pos, ◌+ℤ◌, ◌*ℤ◌}
use Rattle.std.specs.Int.{w128}
use Rattle.std.proofs.lemmas.Int.{ints, to_z-of_z}
use Rattle.py_ops.proofs.Ranging.{unfit}
use Rattle.py_ops.proofs.contains.is_nth.Goals as goal

pub returns-in-None : goal.returns-in-None
returns-in-None c =
    unfit (c.args.start +ℤ c.args.step *ℤ pos c.args.at) c.args.n
    (rw (to_z-of_z w128 c.args.start c.ranges.start, to_z-of_z w128 c.args.step c.ranges.step) at c.in-None.ensures)
    (omega (arith, ints)) (omega (arith, ints))
