use Rattle.std.proofs.Common.{◌≡◌, take}
use Rattle.call_products.specs.Elements.{keys_of}
use Rattle.call_products.proofs.elements.keys_of.Given as goal

abbrev pub invariant-loop-at : goal.invariant-loop-at
invariant-loop-at l = l.keys.items ≡ keys_of (take l.at l.dict)
