use Rattle.std.proofs.Common.{◌≡◌, drop, pos}
use Rattle.py_values.specs.declared.value.Value.TheVariants.{Int}
use Rattle.number_calls.specs.Sums.{sum_from}
use Rattle.number_calls.proofs.sums.sum_all.Given as goal

abbrev pub invariant-loop-i : goal.invariant-loop-i
invariant-loop-i l = sum_from l.heap (Int (pos 0)) 0 l.items ≡ sum_from l.heap l.total l.i (drop l.i l.items)
