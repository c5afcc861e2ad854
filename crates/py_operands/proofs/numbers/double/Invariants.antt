use Rattle.std.proofs.Common.{◌≡◌, ◌-◌, ◌^◌, pos, ◌*ℤ◌}
use Rattle.py_operands.proofs.numbers.double.Given as goal

abbrev pub invariant-loop : goal.invariant-loop
invariant-loop l = l.fn.x *ℤ pos (2 ^ l.times) ≡ l.doubled *ℤ pos (2 ^ (l.times - l.counter))
