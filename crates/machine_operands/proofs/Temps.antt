-- Temporaries.
use Rattle.std.proofs.Common.{◌≡◌, ◌<◌, ◌≤◌, ◌++◌, ℕ, zero, suc, List, [], ◌∷◌, length, Option, Some, None, refl, ap, arith}
use Rattle.std.specs.Prelude.{slice_set}
use Rattle.py_values.specs.declared.value.Value.{Value}
use Rattle.machine_state.specs.py_world.World.{set_at}

pub set_grown : (t : ℕ) (v : Value) (xs : List (Option Value)) → length xs ≤ t → set_at t v (xs ++ None ∷ []) ≡ set_at t v xs
set_grown zero v [] h = refl
set_grown (suc t) v [] h = refl
set_grown zero v (x ∷ xs) h = absurd (omega arith)
set_grown (suc t) v (x ∷ xs) h = ap (λ (ys : List (Option Value)). x ∷ ys) (set_grown t v xs (omega arith))

pub set_within : (t : ℕ) (v : Value) (xs : List (Option Value)) → t < length xs → slice_set xs t (Some v) ≡ set_at t v xs
set_within zero v [] h = absurd (omega arith)
set_within (suc t) v [] h = absurd (omega arith)
set_within zero v (x ∷ xs) h = refl
set_within (suc t) v (x ∷ xs) h = ap (λ (ys : List (Option Value)). x ∷ ys) (set_within t v xs (omega arith))
