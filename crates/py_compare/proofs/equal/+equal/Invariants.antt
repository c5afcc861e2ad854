use Rattle.std.proofs.Common.{◌≡◌, ◌≤◌, ◌*◌, ◌+◌, drop}
use Rattle.py_compare.specs.Equal.{after, rows_equal, pairs_equal, equal_to}
use Rattle.py_compare.proofs.equal.+equal.Given as goal

abbrev pub decreases-equal_values : goal.decreases-equal_values
decreases-equal_values l = 5 * l.depth

abbrev pub decreases-equal_objs : goal.decreases-equal_objs
decreases-equal_objs l = 5 * l.depth + 4

abbrev pub decreases-equal_lists : goal.decreases-equal_lists
decreases-equal_lists l = 5 * l.depth + 2

abbrev pub decreases-equal_dicts : goal.decreases-equal_dicts
decreases-equal_dicts l = 5 * l.depth + 3

abbrev pub decreases-equal_rows : goal.decreases-equal_rows
decreases-equal_rows l = 5 * l.depth + 1

abbrev pub decreases-equal_pairs : goal.decreases-equal_pairs
decreases-equal_pairs l = 5 * l.depth + 2

abbrev pub decreases-equal_pair : goal.decreases-equal_pair
decreases-equal_pair l = 5 * l.depth + 1

abbrev pub invariant-equal_rows-loop-i : goal.invariant-equal_rows-loop-i
invariant-equal_rows-loop-i l = record {
  rest : rows_equal (equal_to l.depth l.heap) l.xs l.ys ≡ after l.used (rows_equal (equal_to l.depth l.heap) (drop l.i l.xs) (drop l.i l.ys));
  within : l.used ≤ l.left;
}

abbrev pub invariant-equal_pairs-loop-i : goal.invariant-equal_pairs-loop-i
invariant-equal_pairs-loop-i l = record {
  rest : pairs_equal (equal_to l.depth l.heap) l.a l.b ≡ after l.used (pairs_equal (equal_to l.depth l.heap) (drop l.i l.a) l.b);
  within : l.used ≤ l.left;
}
