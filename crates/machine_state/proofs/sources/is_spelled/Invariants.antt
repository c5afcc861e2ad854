use Rattle.std.proofs.Common.{◌≡◌, ◌≤◌, length, drop}
use Rattle.std.specs.Str.{chars}
use Rattle.py_values.specs.Names.{name_eq}
use Rattle.machine_state.proofs.sources.is_spelled.Given as goal

abbrev pub invariant-loop-c : goal.invariant-loop-c
invariant-loop-c l = record {
  at : l.at ≡ length l.yielded;
  within : l.at ≤ length l.letters;
  same : name_eq (drop l.at (chars l.text)) (drop l.at l.letters) ≡ name_eq (chars l.text) l.letters;
}
