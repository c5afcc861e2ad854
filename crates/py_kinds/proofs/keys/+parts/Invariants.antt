use Rattle.std.proofs.Common.{◌≡◌, ◌*◌, ◌+◌, drop}
use Rattle.py_kinds.specs.Keys.{Atoms, joined_parts, row_parts, parts_to}
use Rattle.py_kinds.proofs.keys.+parts.Given as goal

abbrev pub decreases-push_parts : goal.decreases-push_parts
decreases-push_parts l = 3 * l.depth

abbrev pub decreases-push_obj : goal.decreases-push_obj
decreases-push_obj l = 3 * l.depth + 2

abbrev pub decreases-push_row : goal.decreases-push_row
decreases-push_row l = 3 * l.depth + 1

abbrev pub invariant-push_row-loop-v : goal.invariant-push_row-loop-v
invariant-push_row-loop-v l =
    joined_parts (Atoms l.fn.atoms.items) (row_parts (parts_to l.depth l.heap) l.vs)
    ≡ joined_parts (Atoms l.atoms.items) (row_parts (parts_to l.depth l.heap) (drop l.v-index l.vs))
