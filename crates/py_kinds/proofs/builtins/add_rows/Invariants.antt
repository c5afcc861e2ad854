use Rattle.std.proofs.Common.{◌≡◌, ◌++◌, map, take}
use Rattle.py_kinds.specs.Builtins.{row_object, entry_of}
use Rattle.py_kinds.proofs.builtins.add_rows.Given as goal

abbrev pub invariant-loop-row : goal.invariant-loop-row
invariant-loop-row l = l.heap ≡ l.fn.heap ++ map row_object (map entry_of (take l.row-index l.table))
