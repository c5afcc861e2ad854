use Rattle.std.proofs.Common.{◌≡◌, drop}
use Rattle.py_values.specs.Names.{find_name}
use Rattle.machine_names.proofs.names.early_value.Given as goal

abbrev pub invariant-loop-at : goal.invariant-loop-at
invariant-loop-at l = find_name l.name l.names ≡ find_name l.name (drop l.at l.names)
