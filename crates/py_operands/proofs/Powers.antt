-- Powers and shifts that are out of range.
use Rattle.std.proofs.Common.{ℕ, zero, suc, ◌+◌, ◌-◌, ◌*◌, ◌/◌, ◌%◌, ◌^◌, ◌<◌, ◌≤◌, ◌≡◌, ◌∙◌, Bool, true, false, ℤ, pos, negsuc, ◌*ℤ◌, neg_ℤ, cond, ◌==◌, refl, sym, ap, arith, None}
use Rattle.std.specs.Int.{int_pow}
use Rattle.std.specs.Prelude.{unsigned_abs}
use Rattle.std.proofs.lemmas.Grind.{common_steps}
use Rattle.std.proofs.Math.Nat.{pow-le-pow_left, div-eq_of_lt, pow-suc, mul-zero, mul-one, zero-mul, mul_comm, mul_assoc}
use Rattle.std.proofs.lemmas.Nat.{pow_pos}
use Rattle.std.proofs.Math.Pow.{pow_mono}
use Rattle.py_operands.specs.Numbers.{fits_bits, fitting}

pub fits_not : (z : ℤ) → 2 ^ 127 < unsigned_abs z → fits_bits z ≡ false
fits_not (pos n) h = grind (arith, common_steps)
fits_not (negsuc n) h = grind (arith, common_steps)

abs_neg : (n : ℕ) → unsigned_abs (neg_ℤ (pos n)) ≡ n
abs_neg zero = refl
abs_neg (suc n) = refl

abs_cond : (b : Bool) (m : ℕ) → unsigned_abs (cond b (pos m) (neg_ℤ (pos m))) ≡ m
abs_cond true m = refl
abs_cond false m = abs_neg m

abs_pow : (z : ℤ) (n : ℕ) → unsigned_abs (int_pow z n) ≡ unsigned_abs z ^ n
abs_pow (pos a) n = refl
abs_pow (negsuc a) n = abs_cond (n % 2 == 0) (suc a ^ n)

large : (a n : ℕ) → 1 < a → 128 ≤ n → 2 ^ 128 ≤ a ^ n
large a n h k =
    let p : 2 ^ 128 ≤ 2 ^ n = pow_mono k in
    let q : 2 ^ n ≤ a ^ n = pow-le-pow_left (omega arith) n in
    omega arith

pub far_power : (x : ℤ) (n : ℕ) → 1 < unsigned_abs x → 128 ≤ n → fitting (int_pow x n) ≡ None
far_power x n h k =
    let p : 2 ^ 128 ≤ unsigned_abs x ^ n = large (unsigned_abs x) n h k in
    rw (fits_not (int_pow x n) (rw (abs_pow x n) (omega arith))) refl

pub power_of_zero : (n : ℕ) → 0 < n → int_pow (pos 0) n ≡ pos 0
power_of_zero zero h = absurd (omega arith)
power_of_zero (suc n) h = ap pos (pow-suc 0 n ∙ mul-zero (0 ^ n))

pub power_of_one : (n : ℕ) → 1 ^ n ≡ 1
power_of_one zero = refl
power_of_one (suc n) = pow-suc 1 n ∙ (mul-one (1 ^ n) ∙ power_of_one n)

neg_times : (x m : ℕ) → neg_ℤ (pos x) *ℤ pos m ≡ neg_ℤ (pos (x * m))
neg_times zero m = simp zero-mul
neg_times (suc x) m = refl

twice : (a m : ℕ) → a * 2 ^ suc m ≡ (a * 2) * 2 ^ m
twice a m = rw (pow-suc 2 m, mul_comm (2 ^ m) 2) (sym (mul_assoc a 2 (2 ^ m)))

double_by : (p : ℤ) (m : ℕ) → p *ℤ pos (2 ^ suc m) ≡ (p *ℤ pos 2) *ℤ pos (2 ^ m)
double_by (pos a) m = ap pos (twice a m)
double_by (negsuc a) m = ap (λ (x : ℕ). neg_ℤ (pos x)) (twice (suc a) m) ∙ sym (neg_times (suc a * 2) (2 ^ m))

-- a turn of the loop that doubles
pub double : (p : ℤ) (n i : ℕ) → i < n → p *ℤ pos (2 ^ (n - i)) ≡ (p *ℤ pos 2) *ℤ pos (2 ^ (n - (i + 1)))
double p n i h =
    let e : n - i ≡ suc (n - (i + 1)) = omega arith in
    ap (λ (m : ℕ). p *ℤ pos (2 ^ m)) e ∙ double_by p (n - (i + 1))

more_times : (a m : ℕ) → a ≤ a * 2 ^ m
more_times a m =
    let p : 0 < 2 ^ m = pow_pos m in
    grind (arith, p)

fits_below : (x : ℕ) → 2 ^ 127 < x → fits_bits (neg_ℤ (pos x)) ≡ false
fits_below zero h = absurd (omega arith)
fits_below (suc x) h = grind (arith, common_steps)

by_fits : (z : ℤ) (m : ℕ) → fits_bits z ≡ false → fits_bits (z *ℤ pos (2 ^ m)) ≡ false
by_fits (pos n) m h =
    let p : n ≤ n * 2 ^ m = more_times n m in
    grind (arith, common_steps)
by_fits (negsuc n) m h =
    let p : suc n ≤ suc n * 2 ^ m = more_times (suc n) m in
    let q : 2 ^ 127 ≤ n = grind (arith, common_steps) in
    fits_below (suc n * 2 ^ m) (omega arith)

fits_none : (z : ℤ) → None ≡ fitting z → fits_bits z ≡ false
fits_none z h = grind (arith, common_steps)

-- what is out of range stays so when it is doubled
pub overflow : (z : ℤ) (m : ℕ) → None ≡ fitting z → None ≡ fitting (z *ℤ pos (2 ^ m))
overflow z m h = rw (by_fits z m (fits_none z h)) refl

pub small_quotient : (a n : ℕ) → a < 2 ^ 127 → 127 ≤ n → a / 2 ^ n ≡ 0
small_quotient a n h k =
    let p : 2 ^ 127 ≤ 2 ^ n = pow_mono k in div-eq_of_lt (omega arith)
