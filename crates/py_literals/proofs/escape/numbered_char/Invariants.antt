use Rattle.std.proofs.Common.{◌≡◌, drop}
use Rattle.std.specs.Str.Parse.{digits_value, digits_value_after}
use Rattle.py_literals.proofs.escape.numbered_char.Given as goal

abbrev pub invariant-loop-ch : goal.invariant-loop-ch
invariant-loop-ch l = digits_value_after l.base l.value (drop l.ch-index l.digits) ≡ digits_value l.base l.digits
