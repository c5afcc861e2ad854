use Rattle.std.proofs.Common.{◌≡◌, ◌<◌, ◌^◌, drop}
use Rattle.std.specs.Str.Parse.{digits_value_after}
use Rattle.py_literals.specs.Numbers.{bare_digits, value_in}
use Rattle.py_literals.proofs.number.value_in.Given as goal

abbrev pub invariant-loop-ch : goal.invariant-loop-ch
invariant-loop-ch l = record {
  same : digits_value_after l.base l.value (bare_digits (drop l.ch-index l.digits)) ≡ value_in l.base l.digits;
  small : l.value < 2 ^ 127;
}
