use Rattle.std.proofs.Common.{◌≡◌, ◌*◌, ◌+◌, true, drop}
use Rattle.std.specs.List.{fold}
use Rattle.py_repr.specs.Adding.{add}
use Rattle.py_repr.specs.Repr.{item_row, pairs_row, repr_to}
use Rattle.py_repr.proofs.shower.Shower.+show.Given as goal

abbrev pub decreases-show : goal.decreases-show
decreases-show l = 7 * l.depth

abbrev pub decreases-show_obj : goal.decreases-show_obj
decreases-show_obj l = 7 * l.depth + 6

abbrev pub decreases-show_list : goal.decreases-show_list
decreases-show_list l = 7 * l.depth + 5

abbrev pub decreases-show_tuple : goal.decreases-show_tuple
decreases-show_tuple l = 7 * l.depth + 5

abbrev pub decreases-show_dict : goal.decreases-show_dict
decreases-show_dict l = 7 * l.depth + 5

abbrev pub decreases-show_inner : goal.decreases-show_inner
decreases-show_inner l = 7 * l.depth + 3

abbrev pub decreases-show_inner_pairs : goal.decreases-show_inner_pairs
decreases-show_inner_pairs l = 7 * l.depth + 4

abbrev pub decreases-show_exception : goal.decreases-show_exception
decreases-show_exception l = 7 * l.depth + 4

abbrev pub decreases-show_args : goal.decreases-show_args
decreases-show_args l = 7 * l.depth + 2

abbrev pub decreases-show_pairs : goal.decreases-show_pairs
decreases-show_pairs l = 7 * l.depth + 3

abbrev pub decreases-show_pair : goal.decreases-show_pair
decreases-show_pair l = 7 * l.depth + 1

abbrev pub decreases-show_row : goal.decreases-show_row
decreases-show_row l = 7 * l.depth + 1

abbrev pub invariant-show_pairs-loop-i : goal.invariant-show_pairs-loop-i
invariant-show_pairs-loop-i l = record {
  text : fold add l.fn.self (pairs_row true (repr_to l.depth l.heap l.fn.around.items) l.dict)
      ≡ fold add l.self (pairs_row l.first (repr_to l.depth l.heap l.fn.around.items) (drop l.i l.dict));
  same : l.around.items ≡ l.fn.around.items;
}

abbrev pub invariant-show_row-loop-v : goal.invariant-show_row-loop-v
invariant-show_row-loop-v l = record {
  text : fold add l.fn.self (item_row true (repr_to l.depth l.heap l.fn.around.items) l.vs)
      ≡ fold add l.self (item_row l.first (repr_to l.depth l.heap l.fn.around.items) (drop l.v-index l.vs));
  same : l.around.items ≡ l.fn.around.items;
}
