-- The steps of what is made under a budget are within it.
use Rattle.std.proofs.Common.{ℕ, ◌≤◌, ◌≡◌, Bool, true, false, nat_lt, if◌then◌else◌, Option, Some, None, refl, arith}
use Rattle.std.proofs.lemmas.Grind.{common_steps}
use Rattle.py_ops.specs.Binary.{or_fail, put_whole, put_some}
use Rattle.py_operands.specs.Attempts.{attempted}
use Rattle.py_operands.specs.declared.attempt.Attempt.{Attempt}
use Rattle.py_operands.specs.declared.attempt.Attempt.TheVariants as attempt
use Rattle.py_values.specs.Ends.{payable, made_cost, cost_of}
use Rattle.py_values.specs.declared.end.Effect.{Effect}
use Rattle.py_values.specs.declared.end.Effect.TheVariants.{Give, New, Put, Fail}
use Rattle.py_values.specs.declared.value.ObjId.{ObjId}

by_test : (b : Bool) (budget : ℕ) (m : Effect) → (b ≡ false → cost_of m ≤ budget) → made_cost (if b then None else Some m) ≤ budget
by_test true budget m f = omega arith
by_test false budget m f = f refl

pub within_cost : (budget : ℕ) (m : Effect) → made_cost (payable budget m) ≤ budget
within_cost budget m = by_test (nat_lt budget (cost_of m)) budget m (λ e. grind (arith, common_steps))

-- what is made of what was tried, where two kinds may not have an operator
abbrev pub made_of : Effect → Attempt → Option Effect
made_of none (attempt.Made m) = Some m
made_of none attempt.Exhausted = None
made_of none attempt.Unsupported = Some none

by_try : (b : Bool) (none m : Effect) → made_of none (if b then attempt.Exhausted else attempt.Made m) ≡ (if b then None else Some m)
by_try true none m = refl
by_try false none m = refl

free : (budget : ℕ) (m : Effect) → cost_of m ≡ 0 → Some m ≡ payable budget m
free budget m e = grind (arith, common_steps)

pub or_fail_within : (budget : ℕ) (none : Effect) (o : Option Effect) → cost_of none ≡ 0
    → made_of none (attempted budget o) ≡ payable budget (or_fail none o)
or_fail_within budget none (Some m) e = by_try (nat_lt budget (cost_of m)) none m
or_fail_within budget none None e = free budget none e

put_cost : (id : ObjId) (m : Effect) → cost_of (put_whole id m) ≡ cost_of m
put_cost id (Give v n) = refl
put_cost id (New o n) = refl
put_cost id (Put i c v n) = refl
put_cost id (Fail r n) = refl

by_put : (id : ObjId) (b : Bool) (m : Effect) → put_some id (if b then None else Some m) ≡ (if b then None else Some (put_whole id m))
by_put id true m = refl
by_put id false m = refl

pub put_within : (id : ObjId) (budget : ℕ) (m : Effect) → put_some id (payable budget m) ≡ payable budget (put_whole id m)
put_within id budget m = rw (put_cost id m) (by_put id (nat_lt budget (cost_of m)) m)
