use Rattle.std.proofs.Common.{◌≡◌, ◌-◌}
use Rattle.call_products.specs.Elements.{range_values, values_from}
use Rattle.call_products.proofs.Gathering.{values_before}
use Rattle.call_products.proofs.elements.numbers.Given as goal

abbrev pub invariant-loop-at : goal.invariant-loop-at
invariant-loop-at l = range_values l.range ≡ values_before l.values.items (values_from l.range l.at (l.range.length - l.at))
