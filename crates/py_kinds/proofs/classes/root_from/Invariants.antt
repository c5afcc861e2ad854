use Rattle.std.proofs.Common.{◌≡◌, ◌-◌, length}
use Rattle.py_kinds.specs.Classes.{root_within}
use Rattle.py_kinds.proofs.classes.root_from.Given as goal

abbrev pub invariant-loop : goal.invariant-loop
invariant-loop l = root_within (length l.heap) l.heap l.fn.class ≡ root_within (length l.heap - l.counter) l.heap l.at
