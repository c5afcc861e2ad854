use Rattle.std.proofs.Common.{◌≡◌, ◌≤◌, drop}
use Rattle.py_compare.specs.Equal.{after, chars_equal}
use Rattle.py_compare.proofs.chars.equal_pairs.Given as goal

abbrev pub invariant-loop-i : goal.invariant-loop-i
invariant-loop-i l = record {
  rest : chars_equal l.xs l.ys ≡ after l.i (chars_equal (drop l.i l.xs) (drop l.i l.ys));
  within : l.i ≤ l.budget;
}
