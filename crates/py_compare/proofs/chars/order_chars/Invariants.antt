use Rattle.std.proofs.Common.{◌≡◌, ◌≤◌, drop, length}
use Rattle.py_compare.specs.Order.{behind, chars_order}
use Rattle.py_compare.proofs.chars.order_chars.Given as goal

abbrev pub invariant-loop-i : goal.invariant-loop-i
invariant-loop-i l = record {
  rest : chars_order l.xs l.ys ≡ behind l.i (chars_order (drop l.i l.xs) (drop l.i l.ys));
  within : l.i ≤ l.budget;
  short : l.i ≤ length l.ys;
}
