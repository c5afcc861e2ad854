use Rattle.std.proofs.Common.{◌≡◌, ◌+◌, drop}
use Rattle.py_kinds.specs.Builtins.{bound_functions}
use Rattle.py_kinds.proofs.builtins.bind_functions.Given as goal

abbrev pub invariant-loop-i : goal.invariant-loop-i
invariant-loop-i l = bound_functions l.from l.table l.fn.names ≡ bound_functions (l.from + l.i) (drop l.i l.table) l.names
