use Rattle.std.proofs.Common.{arith, drop, length, refl}
use Rattle.py_compare.proofs.Places.{place_spent, place_less, place_more, place_same, chars_cost, chars_less, chars_more, chars_same}
use Rattle.py_compare.specs.Order.{chars_order}
use Rattle.py_compare.proofs.chars.order_chars.Goals as goal

pub returns-then-i-ys : goal.returns-then-i-ys
returns-then-i-ys c =
    place_more c.args.budget c.loop-i.i c.loop-i.i (chars_order c.args.xs.now c.args.ys.now) (chars_order (drop c.loop-i.i c.args.xs.now) (drop c.loop-i.i c.args.ys.now))
    c.loop-i.invariant.rest (chars_more c.args.xs.now c.args.ys.now c.loop-i.i (omega arith) (omega arith)) refl (omega arith)

pub returns-then-used-budget : goal.returns-then-used-budget
returns-then-used-budget c =
    place_spent c.args.budget c.loop-i.i (chars_order c.args.xs.now c.args.ys.now) (chars_order (drop c.loop-i.i c.args.xs.now) (drop c.loop-i.i c.args.ys.now))
    c.loop-i.invariant.rest (omega arith) (chars_cost c.args.xs.now c.args.ys.now c.loop-i.i (omega arith) (omega arith))

pub returns-then-xs-ys : goal.returns-then-xs-ys
returns-then-xs-ys c =
    place_less c.args.budget (length c.args.xs.now) c.loop-i.i (chars_order c.args.xs.now c.args.ys.now) (chars_order (drop c.loop-i.i c.args.xs.now) (drop c.loop-i.i c.args.ys.now))
    c.loop-i.invariant.rest (chars_less c.args.xs.now c.args.ys.now c.loop-i.i (omega arith) (omega arith)) (omega arith) (omega arith)

pub returns-else-xs-ys : goal.returns-else-xs-ys
returns-else-xs-ys c =
    place_same c.args.budget (length c.args.xs.now) c.loop-i.i (chars_order c.args.xs.now c.args.ys.now) (chars_order (drop c.loop-i.i c.args.xs.now) (drop c.loop-i.i c.args.ys.now))
    c.loop-i.invariant.rest (chars_same c.args.xs.now c.args.ys.now c.loop-i.i (omega arith) (omega arith)) (omega arith) (omega arith)
