use Rattle.std.proofs.Common.{arith, drop}
use Rattle.py_compare.proofs.Comparing.{told_spent, chars_cost}
use Rattle.py_compare.specs.Equal.{chars_equal}
use Rattle.py_compare.proofs.chars.equal_pairs.Goals as goal

pub returns-then-used-budget : goal.returns-then-used-budget
returns-then-used-budget c =
    told_spent c.args.budget c.loop-i.i (chars_equal c.args.xs.now c.args.ys.now) (chars_equal (drop c.loop-i.i c.args.xs.now) (drop c.loop-i.i c.args.ys.now))
    c.loop-i.invariant.rest (omega arith) (chars_cost c.args.xs.now c.args.ys.now c.loop-i.i (omega arith) c.requires)
