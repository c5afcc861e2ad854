use Rattle.std.proofs.Common.{◌≡◌, ◌++◌}
use Rattle.call_products.proofs.product.add_all.Given as goal

abbrev pub invariant-loop-object : goal.invariant-loop-object
invariant-loop-object l = l.heap ≡ l.fn.heap ++ l.yielded
