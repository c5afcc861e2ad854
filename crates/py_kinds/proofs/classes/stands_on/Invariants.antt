use Rattle.std.proofs.Common.{◌≡◌, ◌-◌, length}
use Rattle.py_kinds.specs.Classes.{stands_on}
use Rattle.py_kinds.proofs.classes.stands_on.Given as goal

abbrev pub invariant-loop : goal.invariant-loop
invariant-loop l = stands_on (length l.heap) l.heap l.fn.class l.other ≡ stands_on (length l.heap - l.counter) l.heap l.at l.other
