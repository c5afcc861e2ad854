use Rattle.std.proofs.Common.{◌≡◌, drop}
use Rattle.py_values.specs.Names.{name_eq}
use Rattle.pytest_arguments.proofs.form.is_word.Given as goal

abbrev pub invariant-loop-i : goal.invariant-loop-i
invariant-loop-i l = name_eq l.word l.name ≡ name_eq (drop l.i l.word) (drop l.i l.name)
