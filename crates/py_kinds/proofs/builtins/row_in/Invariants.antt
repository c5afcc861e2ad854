use Rattle.std.proofs.Common.{◌≡◌, drop, map}
use Rattle.py_kinds.specs.Builtins.{names_from, entry_of}
use Rattle.py_values.specs.Names.{find_name}
use Rattle.py_kinds.proofs.builtins.row_in.Given as goal

abbrev pub invariant-loop-at : goal.invariant-loop-at
invariant-loop-at l = find_name l.name (names_from 0 (map entry_of l.table)) ≡ find_name l.name (names_from l.at (map entry_of (drop l.at l.table)))
