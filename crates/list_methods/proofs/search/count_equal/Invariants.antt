use Rattle.std.proofs.Common.{◌≡◌, ◌≤◌, drop}
use Rattle.list_methods.specs.Search.{tally_from}
use Rattle.py_compare.specs.Equal.{equal_of}
use Rattle.list_methods.proofs.search.count_equal.Given as goal

abbrev pub invariant-loop-x : goal.invariant-loop-x
invariant-loop-x l = record {
  rest : tally_from (equal_of l.heap l.v) 0 l.spent l.items ≡ tally_from (equal_of l.heap l.v) l.count l.used (drop l.x-index l.items);
  within : l.used ≤ l.budget;
  few : l.count ≤ l.x-index;
}
