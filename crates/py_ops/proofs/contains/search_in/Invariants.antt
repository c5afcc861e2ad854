use Rattle.std.proofs.Common.{◌≡◌, ◌≤◌, drop}
use Rattle.py_compare.specs.Equal.{after, equal_of}
use Rattle.py_ops.specs.Compare.{search_in}
use Rattle.py_ops.proofs.contains.search_in.Given as goal

abbrev pub invariant-loop-v : goal.invariant-loop-v
invariant-loop-v l = record {
  rest : search_in (equal_of l.heap l.a) l.vs ≡ after l.used (search_in (equal_of l.heap l.a) (drop l.v-index l.vs));
  within : l.used ≤ l.budget;
}
