use Rattle.std.proofs.Common.{◌≡◌, ◌-◌}
use Rattle.py_kinds.specs.Classes.{exc_within}
use Rattle.py_kinds.proofs.classes.exc_below.Given as goal

abbrev pub invariant-loop : goal.invariant-loop
invariant-loop l = exc_within 4 l.fn.class l.other ≡ exc_within (4 - l.counter) l.at l.other
