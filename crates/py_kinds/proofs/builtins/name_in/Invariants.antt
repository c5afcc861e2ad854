use Rattle.std.proofs.Common.{◌≡◌, drop, map}
use Rattle.py_kinds.specs.Builtins.{name_in, entry_of}
use Rattle.py_kinds.proofs.builtins.name_in.Given as goal

abbrev pub invariant-loop-row : goal.invariant-loop-row
invariant-loop-row l = name_in l.which (map entry_of l.table) ≡ name_in l.which (map entry_of (drop l.row-index l.table))
