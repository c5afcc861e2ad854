use Rattle.std.proofs.Common.{◌≡◌, ◌++◌, ◌+◌, ◌-◌}
use Rattle.call_products.specs.Products.{refs_from}
use Rattle.call_products.proofs.product.refs.Given as goal

abbrev pub invariant-loop-i : goal.invariant-loop-i
invariant-loop-i l = l.values.items ++ refs_from (l.from + l.i) (l.count - l.i) ≡ refs_from l.from l.count
