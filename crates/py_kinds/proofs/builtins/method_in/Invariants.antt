use Rattle.std.proofs.Common.{◌≡◌, drop}
use Rattle.py_kinds.specs.Builtins.{method_in}
use Rattle.py_kinds.proofs.builtins.method_in.Given as goal

abbrev pub invariant-loop-which : goal.invariant-loop-which
invariant-loop-which l = method_in l.name l.table ≡ method_in l.name (drop l.which-index l.table)
