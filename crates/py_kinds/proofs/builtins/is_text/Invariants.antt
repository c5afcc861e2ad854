use Rattle.std.proofs.Common.{◌≡◌, drop}
use Rattle.py_values.specs.Names.{name_eq}
use Rattle.py_kinds.proofs.builtins.is_text.Given as goal

abbrev pub invariant-loop-i : goal.invariant-loop-i
invariant-loop-i l = name_eq l.name l.text ≡ name_eq (drop l.i l.name) (drop l.i l.text)
