use Rattle.std.proofs.Common.{◌≡◌, ◌-◌, length, drop}
use Rattle.py_literals.specs.Literals.{text_from, put_before}
use Rattle.py_literals.proofs.literal.body_text.Given as goal

abbrev pub invariant-loop-at : goal.invariant-loop-at
invariant-loop-at l = put_before l.text (text_from l.is_raw l.at 0 (drop l.at l.body)) ≡ text_from l.is_raw 0 0 l.body

abbrev pub decreases-loop-at : goal.decreases-loop-at
decreases-loop-at l = length l.initial.body - l.at
