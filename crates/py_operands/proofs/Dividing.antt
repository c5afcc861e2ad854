-- The law of division: a number is its quotient times the divisor, and what is left.
use Rattle.std.proofs.Common.{ℕ, zero, suc, ◌+◌, ◌-◌, ◌*◌, ◌/◌, ◌%◌, ◌<◌, ◌≡◌, ◌≢◌, ℤ, pos, negsuc, ◌+ℤ◌, ◌*ℤ◌, ◌<ℤ◌, ◌≤ℤ◌, neg_ℤ, refl, ap, arith}
use Rattle.std.proofs.lemmas.Int.{ints}
use Rattle.std.proofs.lemmas.Nat.{div-add-mod'}
use Rattle.std.proofs.Math.Nat.{mod-lt}
use Rattle.std.specs.Prelude.{unsigned_abs}
use Rattle.py_operands.specs.Numbers.{quotient, remainder, floor_div, floor_mod}

-- a product below zero, and what is added to it
below : (p r a : ℕ) → p ≡ suc (a + r) → neg_ℤ (pos p) +ℤ pos r ≡ negsuc a
below p r a e = omega (arith, ints)

one_more : (q n r a : ℕ) → q * n + r ≡ a → r < n → suc q * n ≡ suc (a + (n - 1 - r))
one_more q n r a e l = omega arith

by_positive : (z : ℤ) (n : ℕ) → 0 < n → quotient z n *ℤ pos n +ℤ pos (remainder z n) ≡ z
by_positive (pos a) n lt = ap pos (div-add-mod' a n)
by_positive (negsuc a) n lt =
    below (suc (a / n) * n) (n - 1 - a % n) a (one_more (a / n) n (a % n) a (div-add-mod' a n) (mod-lt a lt))

times_negsuc : (q : ℤ) (m : ℕ) → q *ℤ negsuc m ≡ neg_ℤ (q *ℤ pos (suc m))
times_negsuc (pos b) m = refl
times_negsuc (negsuc b) m = omega (arith, ints)

turned : (a b z : ℤ) → a +ℤ b ≡ neg_ℤ z → neg_ℤ a +ℤ neg_ℤ b ≡ z
turned a b z e = omega (arith, ints)

by_negative : (z : ℤ) (m : ℕ) → floor_div z (negsuc m) *ℤ negsuc m +ℤ floor_mod z (negsuc m) ≡ z
by_negative z m =
    let q : ℤ = quotient (neg_ℤ z) (suc m) in
    let r : ℤ = pos (remainder (neg_ℤ z) (suc m)) in
    rw (times_negsuc (quotient (neg_ℤ z) (suc m)) m) (turned (q *ℤ pos (suc m)) r z (by_positive (neg_ℤ z) (suc m) (omega arith)))

pub division : (z y : ℤ) → y ≢ pos 0 → floor_div z y *ℤ y +ℤ floor_mod z y ≡ z
division z (pos zero) h = absurd (h refl)
division z (pos (suc n)) h = by_positive z (suc n) (omega arith)
division z (negsuc m) h = by_negative z m

rest_below : (z : ℤ) (n : ℕ) → 0 < n → remainder z n < n
rest_below (pos a) n lt = mod-lt a lt
rest_below (negsuc a) n lt = omega arith

abs_neg : (n : ℕ) → unsigned_abs (neg_ℤ (pos n)) ≡ n
abs_neg zero = refl
abs_neg (suc n) = refl

pub rest_size : (z y : ℤ) → y ≢ pos 0 → unsigned_abs (floor_mod z y) < unsigned_abs y
rest_size z (pos zero) h = absurd (h refl)
rest_size z (pos (suc n)) h = rest_below z (suc n) (omega arith)
rest_size z (negsuc m) h = rw (abs_neg (remainder (neg_ℤ z) (suc m))) (rest_below (neg_ℤ z) (suc m) (omega arith))

neg_under : (n : ℕ) → neg_ℤ (pos n) ≤ℤ pos 0
neg_under n = omega (arith, ints)

pub rest_above : (z y : ℤ) → pos 0 <ℤ y → pos 0 ≤ℤ floor_mod z y
rest_above z (pos n) h = omega (arith, ints)
rest_above z (negsuc m) h = absurd (omega (arith, ints))

pub rest_under : (z y : ℤ) → y <ℤ pos 0 → floor_mod z y ≤ℤ pos 0
rest_under z (pos n) h = absurd (omega (arith, ints))
rest_under z (negsuc m) h = neg_under (remainder (neg_ℤ z) (suc m))
