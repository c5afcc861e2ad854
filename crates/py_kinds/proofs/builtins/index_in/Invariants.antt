use Rattle.std.proofs.Common.{◌≡◌, drop}
use Rattle.py_kinds.specs.Builtins.{index_from}
use Rattle.py_kinds.proofs.builtins.index_in.Given as goal

abbrev pub invariant-loop-i : goal.invariant-loop-i
invariant-loop-i l = index_from 0 l.class l.table ≡ index_from l.i l.class (drop l.i l.table)
