use Rattle.std.proofs.Common.{arith, drop, length, refl, rules, ap, ◌<◌, ◌+◌, ◌∙◌, get_or}
use Rattle.py_compare.proofs.Places.{place_spent, place_less, place_more, place_same, rows_cost, rows_less, rows_more, rows_same, order_step, place_stop, rows_step}
use Rattle.py_compare.specs.Order.{rows_order, order_to, behind}
use Rattle.py_compare.proofs.order.+order.Goals as goal

pub order_rows-returns-then-used-left : goal.order_rows-returns-then-used-left
order_rows-returns-then-used-left t c =
    place_spent c.args.left c.loop-i.used (rows_order (order_to c.args.depth c.args.heap.now) c.args.xs.now c.args.ys.now)
    (rows_order (order_to c.args.depth c.args.heap.now) (drop c.loop-i.i c.args.xs.now) (drop c.loop-i.i c.args.ys.now))
    c.loop-i.invariant.rest (omega arith) (rows_cost (order_to c.args.depth c.args.heap.now) c.args.xs.now c.args.ys.now c.loop-i.i (omega arith) (omega arith))

pub order_rows-returns-then-i-ys : goal.order_rows-returns-then-i-ys
order_rows-returns-then-i-ys t c =
    place_more c.args.left c.loop-i.used c.loop-i.used (rows_order (order_to c.args.depth c.args.heap.now) c.args.xs.now c.args.ys.now)
    (rows_order (order_to c.args.depth c.args.heap.now) (drop c.loop-i.i c.args.xs.now) (drop c.loop-i.i c.args.ys.now))
    c.loop-i.invariant.rest (rows_more (order_to c.args.depth c.args.heap.now) c.args.xs.now c.args.ys.now c.loop-i.i (omega arith) (omega arith)) refl (omega arith)

pub order_rows-returns-then-xs-ys : goal.order_rows-returns-then-xs-ys
order_rows-returns-then-xs-ys t c =
    place_less c.args.left c.loop-i.used c.loop-i.used (rows_order (order_to c.args.depth c.args.heap.now) c.args.xs.now c.args.ys.now)
    (rows_order (order_to c.args.depth c.args.heap.now) (drop c.loop-i.i c.args.xs.now) (drop c.loop-i.i c.args.ys.now))
    c.loop-i.invariant.rest (rows_less (order_to c.args.depth c.args.heap.now) c.args.xs.now c.args.ys.now c.loop-i.i (omega arith) (omega arith)) refl (omega arith)

pub order_rows-returns-else-xs-ys : goal.order_rows-returns-else-xs-ys
order_rows-returns-else-xs-ys t c =
    place_same c.args.left c.loop-i.used c.loop-i.used (rows_order (order_to c.args.depth c.args.heap.now) c.args.xs.now c.args.ys.now)
    (rows_order (order_to c.args.depth c.args.heap.now) (drop c.loop-i.i c.args.xs.now) (drop c.loop-i.i c.args.ys.now))
    c.loop-i.invariant.rest (rows_same (order_to c.args.depth c.args.heap.now) c.args.xs.now c.args.ys.now c.loop-i.i (omega arith) (omega arith)) refl (omega arith)

pub order_values-returns-in-Some : goal.order_values-returns-in-Some
order_values-returns-in-Some t c =
    let lt : 0 < c.args.depth = omega arith in
    rw (order_step c.args.depth c.args.heap.now c.args.a c.args.b lt, ← c.in-Some.ensures) c.order_objs.ensures

pub order_values-returns-in-None : goal.order_values-returns-in-None
order_values-returns-in-None t c =
    let lt : 0 < c.args.depth = omega arith in
    rw (order_step c.args.depth c.args.heap.now c.args.a c.args.b lt, ← c.in-None.ensures) c.order_plain.ensures

pub order_rows-returns-in_default : goal.order_rows-returns-in_default
order_rows-returns-in_default t c =
    let lt : c.loop-i.i < length c.args.xs.now = omega arith in
    let lu : c.loop-i.i < length c.args.ys.now = omega arith in
    c.behind.ensures ∙ place_stop c.args.left c.loop-i.used
    (rows_order (order_to c.args.depth c.args.heap.now) c.args.xs.now c.args.ys.now)
    (rows_order (order_to c.args.depth c.args.heap.now) (drop (c.loop-i.i + 1) c.args.xs.now) (drop (c.loop-i.i + 1) c.args.ys.now))
    _ _ c.order_values-t.result
    (c.loop-i.invariant.rest ∙ ap (behind c.loop-i.used) (rows_step (order_to c.args.depth c.args.heap.now) c.args.xs.now c.args.ys.now c.loop-i.i _ _ lt lu))
    (omega arith)
    c.order_values-t.ensures
    (search (rules, c.in_default.not-Same))
