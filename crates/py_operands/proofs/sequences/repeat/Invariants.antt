use Rattle.std.proofs.Common.{◌≡◌, ◌++◌, ◌-◌}
use Rattle.py_operands.specs.Sequences.{repeat}
use Rattle.py_operands.proofs.sequences.repeat.Given as goal

abbrev pub invariant-loop : goal.invariant-loop
invariant-loop g l = l.items.items ++ repeat (l.times - l.counter) l.xs ≡ repeat l.times l.xs
