-- Numbers that digits write.
use Rattle.std.proofs.Common.{◌≡◌, ℕ, ◌+◌, ◌*◌, ◌<◌, ◌≤◌, ◌^◌, Bool, cond, not, List, [], ◌∷◌, None, Some, length, drop, get_or, sym, ap, subst, ◌∙◌, arith, suc, drop-cons}
use Rattle.std.specs.Prelude.{if◌then◌else◌}
use Rattle.std.specs.Char.{digit_value}
use Rattle.std.proofs.lemmas.Bool.{ne_eqb}
use Rattle.std.specs.Str.Parse.{digits_value_after}
use Rattle.py_literals.specs.Numbers.{bare_digits, in_range}
use Rattle.py_literals.specs.Literals.{is_scalar}

-- more digits make no number smaller
pub digits_value_after-ge : (base n : ℕ) (cs : List ℕ) → 2 ≤ base → n ≤ digits_value_after base n cs
digits_value_after-ge base n [] low = omega arith
digits_value_after-ge base n (c ∷ cs) low =
    let more : n * base + digit_value c ≤ digits_value_after base (n * base + digit_value c) cs = digits_value_after-ge base (n * base + digit_value c) cs low in
    let wide : n ≤ n * base = grows n base low in
    omega arith
  where
    grows : (n base : ℕ) → 2 ≤ base → n ≤ n * base
    grows n base low = grind arith

large : (v : ℕ) → 2 ^ 127 ≤ v → in_range v ≡ None
large v past = grind arith

-- where a digit leads past the range, so do all digits
pub past_range : (base value d v i ch : ℕ) (digits : List ℕ) → 2 ≤ base → i < length digits → ch ≡ get_or digits i ch → (ch ≡ 95 → ⊥) → d ≡ digit_value ch → (value * base + d < 2 ^ 127 → ⊥) → digits_value_after base value (bare_digits (drop i digits)) ≡ v → in_range v ≡ None
past_range base value d v i ch digits low within at digit is past same =
    let cut : drop i digits ≡ ch ∷ drop (suc i) digits = drop-cons digits i ch within ∙ ap (λ (x : ℕ). x ∷ drop (suc i) digits) (sym at) in
    let step : digits_value_after base value (bare_digits (ch ∷ drop (suc i) digits)) ≡ v = subst (λ (xs : List ℕ). digits_value_after base value (bare_digits xs) ≡ v) cut same in
    let one : digits_value_after base (value * base + digit_value ch) (bare_digits (drop (suc i) digits)) ≡ v = subst (λ (b : Bool). digits_value_after base value (cond (not b) (ch ∷ bare_digits (drop (suc i) digits)) (bare_digits (drop (suc i) digits))) ≡ v) (ne_eqb ch 95 digit) step in
    let more = digits_value_after-ge base (value * base + digit_value ch) (bare_digits (drop (suc i) digits)) low in
    large v (omega arith)

-- where a digit leads past all code points, so do all digits
pub past_code_points : (base value d v i ch : ℕ) (digits : List ℕ) → 2 ≤ base → i < length digits → ch ≡ get_or digits i ch → d ≡ digit_value ch → (value * base + d < 2 ^ 32 → ⊥) → digits_value_after base value (drop i digits) ≡ v → None ≡ (if is_scalar v then Some v else None)
past_code_points base value d v i ch digits low within at is past same =
    let cut : drop i digits ≡ ch ∷ drop (suc i) digits = drop-cons digits i ch within ∙ ap (λ (x : ℕ). x ∷ drop (suc i) digits) (sym at) in
    let step : digits_value_after base (value * base + digit_value ch) (drop (suc i) digits) ≡ v = subst (λ (xs : List ℕ). digits_value_after base value xs ≡ v) cut same in
    let more = digits_value_after-ge base (value * base + digit_value ch) (drop (suc i) digits) low in
    beyond v (omega arith)
  where
    beyond : (v : ℕ) → 2 ^ 32 ≤ v → None ≡ (if is_scalar v then Some v else None)
    beyond v large = grind arith
