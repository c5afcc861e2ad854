use Rattle.std.proofs.Common.{◌≡◌, ◌-◌, length}
use Rattle.py_attributes.specs.Attributes.{value_within}
use Rattle.py_attributes.proofs.classes.class_value.Given as goal

abbrev pub invariant-loop : goal.invariant-loop
invariant-loop l = value_within (length l.heap) l.heap l.name l.fn.class ≡ value_within (length l.heap - l.counter) l.heap l.name l.at
