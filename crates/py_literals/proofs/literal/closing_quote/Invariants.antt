use Rattle.std.proofs.Common.{◌≡◌, ◌-◌, length, drop}
use Rattle.py_literals.specs.Literals.{closing_from}
use Rattle.py_literals.proofs.literal.closing_quote.Given as goal

abbrev pub invariant-loop-at : goal.invariant-loop-at
invariant-loop-at l = closing_from l.is_long l.quote l.at 0 (drop l.at l.text) ≡ closing_from l.is_long l.quote 0 0 l.text

abbrev pub decreases-loop-at : goal.decreases-loop-at
decreases-loop-at l = length l.initial.text - l.at
