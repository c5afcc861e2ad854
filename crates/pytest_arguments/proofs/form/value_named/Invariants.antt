use Rattle.std.proofs.Common.{◌≡◌, drop}
use Rattle.py_values.specs.Names.{find_name}
use Rattle.pytest_arguments.proofs.form.value_named.Given as goal

abbrev pub invariant-loop-entry : goal.invariant-loop-entry
invariant-loop-entry l = find_name l.word l.named ≡ find_name l.word (drop l.entry-index l.named)
