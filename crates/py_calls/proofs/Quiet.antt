-- A quiet call prints nothing.
use Rattle.std.proofs.Common.{ℕ, ◌≡◌, Bool, true, false, nat_lt, if◌then◌else◌, List, [], refl}
use Rattle.sequence_calls.specs.call_products.declared.product.Product.{Product}
use Rattle.py_calls.specs.Calls.{quiet, printed_within}
use Rattle.py_values.specs.Ends.{cost_of}

either : (b : Bool) (xs : List ℕ) → xs ≡ [] → (if b then [] else xs) ≡ []
either true xs e = refl
either false xs e = e

pub quiet_prints : (budget : ℕ) (p : Product) → printed_within budget (quiet p) ≡ []
quiet_prints budget p = either (nat_lt budget (cost_of p.made)) [] refl
