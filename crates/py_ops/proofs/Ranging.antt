-- The numbers of ranges.
use Rattle.std.proofs.Common.{ℕ, zero, suc, ◌+◌, ◌/◌, ◌^◌, ◌<◌, ◌≤◌, ◌≡◌, ◌≢◌, Bool, true, false, ◌||◌, ℤ, pos, negsuc, neg_ℤ, ◌*◌, ◌+ℤ◌, ◌-ℤ◌, ◌*ℤ◌, ◌≤ℤ◌, ◌<ℤ◌, refl, ap, sym, subst, arith, add-one, None, ◌∙◌}
use Rattle.std.specs.Ordering.{int_eq}
use Rattle.std.specs.Prelude.{unsigned_abs}
use Rattle.std.proofs.lemmas.Bool.{false_from_ne_true}
use Rattle.std.proofs.lemmas.Bool.Decides.{Decides-int_eq}
use Rattle.std.proofs.lemmas.Grind.{common_steps}
use Rattle.std.proofs.lemmas.Int.{ints}
use Rattle.std.proofs.Math.Nat.{mul-zero, zero-mul, mul_comm, div-zero, mul-div_cancel}
use Rattle.py_values.specs.Ranges.{progression}
use Rattle.py_ops.specs.Compare.{in_numbers}
use Rattle.py_operands.specs.Numbers.{fitting}

differs : (x y : ℤ) → x ≢ y → int_eq x y ≡ false
differs x y h = false_from_ne_true (int_eq x y) (λ e. h ((Decides-int_eq x y).0 e))

lt_pos : (b n : ℕ) → pos n <ℤ pos b → n < b
lt_pos b n h = omega (arith, ints)

ge_neg : (b n : ℕ) → neg_ℤ (pos b) ≤ℤ negsuc n → n < b
ge_neg b n h = omega (arith, ints)

fits_one : (n : ℤ) → n <ℤ pos (2 ^ 127) → neg_ℤ (pos (2 ^ 127)) ≤ℤ n → None ≡ fitting n → ⊥
fits_one (pos n) above below h = let k : n < 2 ^ 127 = lt_pos (2 ^ 127) n above in grind (arith, common_steps)
fits_one (negsuc n) above below h = let k : n < 2 ^ 127 = ge_neg (2 ^ 127) n below in grind (arith, common_steps)

fits_apart : (z n : ℤ) → None ≡ fitting z → n <ℤ pos (2 ^ 127) → neg_ℤ (pos (2 ^ 127)) ≤ℤ n → z ≡ n → ⊥
fits_apart z n h above below e = fits_one n above below (subst (λ (x : ℤ). None ≡ fitting x) e h)

-- what has no 128 bits is no number of the language
pub unfit : (z n : ℤ) → None ≡ fitting z → n <ℤ pos (2 ^ 127) → neg_ℤ (pos (2 ^ 127)) ≤ℤ n → false ≡ int_eq z n
unfit z n h above below = rw (differs z n (λ e. fits_apart z n h above below e)) refl

-- the numbers of a range one by one
plus_pos : (z : ℤ) (m a k : ℕ) → k ≡ m + a → (z +ℤ pos m) +ℤ pos a ≡ z +ℤ pos k
plus_pos z m a k h = omega (arith, ints)

plus_neg : (z : ℤ) (m a k : ℕ) → k ≡ m + suc a → (z +ℤ neg_ℤ (pos m)) +ℤ negsuc a ≡ z +ℤ neg_ℤ (pos k)
plus_neg z m a k h = omega (arith, ints)

more : (a i : ℕ) → a * (i + 1) ≡ a * i + a
more a i = grind arith

next_of : (z d : ℤ) (i : ℕ) → (z +ℤ d *ℤ pos i) +ℤ d ≡ z +ℤ d *ℤ pos (i + 1)
next_of z (pos a) i = plus_pos z (a * i) a (a * (i + 1)) (more a i)
next_of z (negsuc a) i = plus_neg z (suc a * i) a (suc a * (i + 1)) (more (suc a) i)

plus_nothing : (z : ℤ) (m : ℕ) → m ≡ 0 → z +ℤ pos m ≡ z
plus_nothing z m h = omega (arith, ints)

less_nothing : (z : ℤ) (m : ℕ) → m ≡ 0 → z +ℤ neg_ℤ (pos m) ≡ z
less_nothing z m h = omega (arith, ints)

swap : (z d x : ℤ) → (z +ℤ d) +ℤ x ≡ (z +ℤ x) +ℤ d
swap z d x = omega (arith, ints)

first_by : (z d : ℤ) → z +ℤ d *ℤ pos 0 ≡ z
first_by z (pos a) = plus_nothing z (a * 0) (mul-zero a)
first_by z (negsuc a) = less_nothing z (suc a * 0) (mul-zero (suc a))

shift : (z d : ℤ) (i : ℕ) → (z +ℤ d) +ℤ d *ℤ pos i ≡ z +ℤ d *ℤ pos (suc i)
shift z d i = swap z d (d *ℤ pos i) ∙ (next_of z d i ∙ ap (λ (m : ℕ). z +ℤ d *ℤ pos m) (add-one i))

-- a number that none of a progression is
none_in : (z d n : ℤ) (m : ℕ) → ((i : ℕ) → i < m → int_eq (z +ℤ d *ℤ pos i) n ≡ false) → in_numbers (progression z d m) n ≡ false
none_in z d n zero h = refl
none_in z d n (suc m) h =
    let head : int_eq z n ≡ false = rw (first_by z d) at (h 0 (omega arith)) in
    let tail : in_numbers (progression (z +ℤ d) d m) n ≡ false = none_in (z +ℤ d) d n m (λ i lt. rw (shift z d i) (h (suc i) (omega arith))) in
    rw (head, tail) refl

or_true : (b : Bool) → (b || true) ≡ true
or_true true = refl
or_true false = refl

-- a number that one of a progression is
one_in : (z d n : ℤ) (m p : ℕ) → p < m → int_eq (z +ℤ d *ℤ pos p) n ≡ true → in_numbers (progression z d m) n ≡ true
one_in z d n zero p lt e = absurd (omega arith)
one_in z d n (suc m) zero lt e = let head : int_eq z n ≡ true = rw (first_by z d) at e in rw head refl
one_in z d n (suc m) (suc p) lt e =
    let tail : in_numbers (progression (z +ℤ d) d m) n ≡ true = one_in (z +ℤ d) d n m p (omega arith) (rw (shift z d p) e) in
    rw tail (or_true (int_eq z n))

-- how far a number of a progression is from its start
abs_neg : (m : ℕ) → unsigned_abs (neg_ℤ (pos m)) ≡ m
abs_neg zero = refl
abs_neg (suc m) = refl

far_up : (z n : ℤ) (m : ℕ) → z +ℤ pos m ≡ n → unsigned_abs (n -ℤ z) ≡ m
far_up z n m h = let e : n -ℤ z ≡ pos m = omega (arith, ints) in ap unsigned_abs e

far_down : (z n : ℤ) (m : ℕ) → z +ℤ neg_ℤ (pos m) ≡ n → unsigned_abs (n -ℤ z) ≡ m
far_down z n m h = let e : n -ℤ z ≡ neg_ℤ (pos m) = omega (arith, ints) in ap unsigned_abs e ∙ abs_neg m

far_of : (z d n : ℤ) (i : ℕ) → z +ℤ d *ℤ pos i ≡ n → unsigned_abs (n -ℤ z) ≡ i * unsigned_abs d
far_of z (pos a) n i h = far_up z n (a * i) h ∙ mul_comm a i
far_of z (negsuc a) n i h = far_down z n (suc a * i) h ∙ mul_comm (suc a) i

-- the only place where a number can stand
abbrev pub place_of : ℤ → ℤ → ℤ → ℕ
place_of z d n = unsigned_abs (n -ℤ z) / unsigned_abs d

-- without a step there is the first place alone
pub no_step : (x y : ℕ) → y ≡ 0 → 0 ≡ x / y
no_step x y h = rw h (sym (div-zero x))

by_place : (z d n : ℤ) (i b : ℕ) → unsigned_abs d ≡ suc b → z +ℤ d *ℤ pos i ≡ n → place_of z d n ≡ i
by_place z d n i b s h =
    let some : 0 < unsigned_abs d = omega arith in
    ap (λ (m : ℕ). m / unsigned_abs d) (far_of z d n i h) ∙ mul-div_cancel i some

still : (z n : ℤ) (i j : ℕ) → z +ℤ pos (0 * i) ≡ n → z +ℤ pos (0 * j) ≡ n
still z n i j h = ap (λ (m : ℕ). z +ℤ pos m) (zero-mul j ∙ sym (zero-mul i)) ∙ h

stands : (z d n : ℤ) (i m : ℕ) → i < m → z +ℤ d *ℤ pos i ≡ n → (place_of z d n < m) × (z +ℤ d *ℤ pos (place_of z d n) ≡ n)
stands z (pos zero) n i m lt h = (omega arith, still z n i (place_of z (pos zero) n) h)
stands z (pos (suc a)) n i m lt h =
    let e : place_of z (pos (suc a)) n ≡ i = by_place z (pos (suc a)) n i a refl h in
    rw e (lt, h)
stands z (negsuc a) n i m lt h =
    let e : place_of z (negsuc a) n ≡ i = by_place z (negsuc a) n i a refl h in
    rw e (lt, h)

not_both : {b : Bool} → b ≡ true → b ≡ false → ⊥
not_both {b} e g = absurd (cc)

absent : (z d n : ℤ) (m : ℕ) → (place_of z d n < m → int_eq (z +ℤ d *ℤ pos (place_of z d n)) n ≡ false)
    → (i : ℕ) → i < m → int_eq (z +ℤ d *ℤ pos i) n ≡ false
absent z d n m h i lt =
    differs (z +ℤ d *ℤ pos i) n
    (λ e. let s : (place_of z d n < m) × (z +ℤ d *ℤ pos (place_of z d n) ≡ n) = stands z d n i m lt e in
    not_both {b = int_eq (z +ℤ d *ℤ pos (place_of z d n)) n} ((Decides-int_eq (z +ℤ d *ℤ pos (place_of z d n)) n).1 s.1) (h s.0))

-- what the look at that place tells
pub found : (z d n : ℤ) (m : ℕ) (b : Bool) → place_of z d n < m → b ≡ int_eq (z +ℤ d *ℤ pos (place_of z d n)) n → b ≡ in_numbers (progression z d m) n
found z d n m true lt e = sym (one_in z d n m (place_of z d n) lt (sym e))
found z d n m false lt e = sym (none_in z d n m (absent z d n m (λ k. sym e)))

pub beyond : (z d n : ℤ) (m : ℕ) → m ≤ place_of z d n → false ≡ in_numbers (progression z d m) n
beyond z d n m le = sym (none_in z d n m (absent z d n m (λ k. absurd (omega arith))))
