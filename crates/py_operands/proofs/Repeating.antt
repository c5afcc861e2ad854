-- Sequences repeated.
use Rattle.std.proofs.Common.{ℕ, zero, suc, ◌+◌, ◌-◌, ◌*◌, ◌<◌, ◌≤◌, List, [], ◌∷◌, ◌++◌, ◌≡◌, refl, ap, arith, length, append_assoc}
use Rattle.py_operands.specs.Sequences.{repeat}

pub repeat_step : {A : Type 0} (n i : ℕ) (xs : List A) → i < n → repeat (n - i) xs ≡ xs ++ repeat (n - (i + 1)) xs
repeat_step n i xs h =
    let e : n - i ≡ suc (n - (i + 1)) = omega arith in ap (λ (m : ℕ). repeat m xs) e

-- a turn of the loop that repeats a sequence
pub repeat_turn : {A : Type 0} (items xs all : List A) (n i : ℕ) → i < n → items ++ repeat (n - i) xs ≡ all
    → (items ++ xs) ++ repeat (n - (i + 1)) xs ≡ all
repeat_turn items xs all n i h e = simp append_assoc (rw (repeat_step n i xs h) at e)

pub repeat_none : {A : Type 0} (n : ℕ) (xs : List A) → n * length xs ≡ 0 → repeat n xs ≡ []
repeat_none zero xs h = refl
repeat_none (suc n) [] h = repeat_none n [] (omega arith)
repeat_none (suc n) (x ∷ xs) h = absurd (grind arith)

pub few_times : {A : Type 0} (n : ℕ) (xs : List A) → 0 < n * length xs → n ≤ n * length xs
few_times n [] h = absurd (omega arith)
few_times n (x ∷ xs) h = grind arith
