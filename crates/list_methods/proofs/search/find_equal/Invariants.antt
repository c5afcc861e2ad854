use Rattle.std.proofs.Common.{◌≡◌, ◌≤◌, drop}
use Rattle.list_methods.specs.Search.{search_from}
use Rattle.py_compare.specs.Equal.{equal_of}
use Rattle.list_methods.proofs.search.find_equal.Given as goal

abbrev pub invariant-loop-i : goal.invariant-loop-i
invariant-loop-i l = record {
  rest : search_from (equal_of l.heap l.v) 0 l.spent l.items ≡ search_from (equal_of l.heap l.v) l.i l.used (drop l.i l.items);
  within : l.used ≤ l.budget;
}
