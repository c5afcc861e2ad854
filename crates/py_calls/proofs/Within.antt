-- The steps of a product under a budget are within it.
use Rattle.std.proofs.Common.{ℕ, ◌≤◌, ◌≡◌, Bool, true, false, nat_lt, if◌then◌else◌, Some, None, refl, arith}
use Rattle.std.proofs.lemmas.Grind.{common_steps}
use Rattle.sequence_calls.specs.call_products.Products.{product_within, product_cost}
use Rattle.sequence_calls.specs.call_products.declared.product.Product.{Product}
use Rattle.py_values.specs.Ends.{cost_of}

by_test : (b : Bool) (budget : ℕ) (p : Product) → (b ≡ false → cost_of p.made ≤ budget) → product_cost (if b then None else Some p) ≤ budget
by_test true budget p f = omega arith
by_test false budget p f = f refl

pub within_cost : (budget : ℕ) (p : Product) → product_cost (product_within budget p) ≤ budget
within_cost budget p = by_test (nat_lt budget (cost_of p.made)) budget p (λ e. grind (arith, common_steps))
