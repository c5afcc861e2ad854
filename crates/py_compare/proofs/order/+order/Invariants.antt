use Rattle.std.proofs.Common.{◌≡◌, ◌≤◌, ◌*◌, ◌+◌, drop, length}
use Rattle.py_compare.specs.Order.{behind, rows_order, order_to}
use Rattle.py_compare.proofs.order.+order.Given as goal

abbrev pub decreases-order_values : goal.decreases-order_values
decreases-order_values l = 3 * l.depth

abbrev pub decreases-order_objs : goal.decreases-order_objs
decreases-order_objs l = 3 * l.depth + 2

abbrev pub decreases-order_rows : goal.decreases-order_rows
decreases-order_rows l = 3 * l.depth + 1

abbrev pub invariant-order_rows-loop-i : goal.invariant-order_rows-loop-i
invariant-order_rows-loop-i l = record {
  rest : rows_order (order_to l.depth l.heap) l.xs l.ys ≡ behind l.used (rows_order (order_to l.depth l.heap) (drop l.i l.xs) (drop l.i l.ys));
  within : l.used ≤ l.left;
  short : l.i ≤ length l.ys;
}
