-- What is made of a key costs what the key does.
use Rattle.std.proofs.Common.{ℕ, ◌≡◌, Bool, true, false, nat_lt, if◌then◌else◌, List, Some, None, option_map, refl}
use Rattle.py_ops.specs.Compare.{in_pairs}
use Rattle.py_operands.specs.py_kinds.Keys.{key_steps, key_payable}
use Rattle.py_operands.specs.py_kinds.declared.keys.KeyResult.{KeyResult}
use Rattle.py_operands.specs.py_kinds.declared.keys.KeyResult.TheVariants as keyed
use Rattle.py_values.specs.Ends.{payable, cost_of}
use Rattle.py_values.specs.declared.dict.Pair.{Pair}
use Rattle.py_values.specs.declared.end.Effect.{Effect}
use Rattle.py_values.specs.declared.key.Atom.{Atom}
use Rattle.py_values.specs.declared.object.Obj.{Obj}

by_test : (b : Bool) (f : KeyResult → Effect) (k : KeyResult) → option_map f (if b then None else Some k) ≡ (if b then None else Some (f k))
by_test true f k = refl
by_test false f k = refl

made_within : (budget : ℕ) (f : KeyResult → Effect) (k : KeyResult) → cost_of (f k) ≡ key_steps k → option_map f (key_payable budget k) ≡ payable budget (f k)
made_within budget f k e = rw e (by_test (nat_lt budget (key_steps k)) f k)

in_pairs_cost : (heap : List Obj) (es : List (List Atom × Pair)) (w : Bool) (k : KeyResult) → cost_of (in_pairs heap es w k) ≡ key_steps k
in_pairs_cost heap es w (keyed.Key k) = refl
in_pairs_cost heap es w (keyed.Fault x n) = refl

pub in_pairs_within : (budget : ℕ) (heap : List Obj) (es : List (List Atom × Pair)) (w : Bool) (k : KeyResult)
    → option_map (in_pairs heap es w) (key_payable budget k) ≡ payable budget (in_pairs heap es w k)
in_pairs_within budget heap es w k = made_within budget (in_pairs heap es w) k (in_pairs_cost heap es w k)
