use Rattle.std.proofs.Common.{◌≡◌, drop}
use Rattle.py_kinds.specs.Builtins.{class_named as named_from}
use Rattle.py_kinds.proofs.builtins.class_named.Given as goal

abbrev pub invariant-loop-i : goal.invariant-loop-i
invariant-loop-i l = named_from l.name 0 l.table ≡ named_from l.name l.i (drop l.i l.table)
