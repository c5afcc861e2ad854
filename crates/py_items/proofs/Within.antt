-- The steps of what is made under a budget are within it.
use Rattle.std.proofs.Common.{ℕ, ◌≤◌, ◌≡◌, Bool, true, false, nat_lt, if◌then◌else◌, Some, None, refl, arith}
use Rattle.std.proofs.lemmas.Grind.{common_steps}
use Rattle.py_values.specs.Ends.{payable, made_cost, cost_of}
use Rattle.py_values.specs.declared.end.Effect.{Effect}

by_test : (b : Bool) (budget : ℕ) (m : Effect) → (b ≡ false → cost_of m ≤ budget) → made_cost (if b then None else Some m) ≤ budget
by_test true budget m f = omega arith
by_test false budget m f = f refl

pub within_cost : (budget : ℕ) (m : Effect) → made_cost (payable budget m) ≤ budget
within_cost budget m = by_test (nat_lt budget (cost_of m)) budget m (λ e. grind (arith, common_steps))
