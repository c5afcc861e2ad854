-- The numbers of ranges.
use Rattle.std.proofs.Common.{ℕ, suc, ◌+◌, ◌-◌, ◌^◌, ◌<◌, ◌≤◌, ◌≡◌, false, ℤ, pos, negsuc, neg_ℤ, ◌*◌, ◌+ℤ◌, ◌-ℤ◌, ◌*ℤ◌, ◌≤ℤ◌, ◌<ℤ◌, refl, arith, None}
use Rattle.std.specs.Prelude.{unsigned_abs}
use Rattle.std.proofs.lemmas.Grind.{common_steps}
use Rattle.std.proofs.lemmas.Int.{ints}
use Rattle.py_operands.specs.Numbers.{fits_bits, fitting}

le_pos : (b n : ℕ) → pos b ≤ℤ pos n → b ≤ n
le_pos b n h = omega (arith, ints)

no_neg : (b n : ℕ) → pos b ≤ℤ negsuc n → ⊥
no_neg b n h = omega (arith, ints)

lt_neg : (b n : ℕ) → negsuc n <ℤ neg_ℤ (pos b) → b ≤ n
lt_neg b n h = omega (arith, ints)

no_pos : (b n : ℕ) → pos n <ℤ neg_ℤ (pos b) → ⊥
no_pos b n h = omega (arith, ints)

-- numbers that have no 128 bits
pub fits_above : (z : ℤ) → pos (2 ^ 127) ≤ℤ z → fits_bits z ≡ false
fits_above (pos n) h = let k : 2 ^ 127 ≤ n = le_pos (2 ^ 127) n h in grind (arith, common_steps)
fits_above (negsuc n) h = absurd (no_neg (2 ^ 127) n h)

pub fits_below : (z : ℤ) → z <ℤ neg_ℤ (pos (2 ^ 127)) → fits_bits z ≡ false
fits_below (pos n) h = absurd (no_pos (2 ^ 127) n h)
fits_below (negsuc n) h = let k : 2 ^ 127 ≤ n = lt_neg (2 ^ 127) n h in grind (arith, common_steps)

pub none_above : (z : ℤ) → pos (2 ^ 127) ≤ℤ z → None ≡ fitting z
none_above z h = rw (fits_above z h) refl

pub none_below : (z : ℤ) → z <ℤ neg_ℤ (pos (2 ^ 127)) → None ≡ fitting z
none_below z h = rw (fits_below z h) refl

doubled : 2 ^ 128 ≡ 2 ^ 127 + 2 ^ 127
doubled = refl

over : (b from far : ℕ) → b + b ≤ from + far → pos b ≤ℤ ((pos from -ℤ pos b) +ℤ pos far)
over b from far h = omega (arith, ints)

under : (b from far : ℕ) → from < far → ((pos from -ℤ pos b) -ℤ pos far) <ℤ neg_ℤ (pos b)
under b from far h = omega (arith, ints)

far_over : (b from far : ℕ) → b + b ≤ far → pos b ≤ℤ ((pos from -ℤ pos b) +ℤ pos far)
far_over b from far h = omega (arith, ints)

far_under : (b from far : ℕ) → from < b + b → b + b ≤ far → ((pos from -ℤ pos b) -ℤ pos far) <ℤ neg_ℤ (pos b)
far_under b from far h k = omega (arith, ints)

pub up_some : (b from far : ℕ) → pos (from + far) -ℤ pos b ≡ (pos from -ℤ pos b) +ℤ pos far
up_some b from far = omega (arith, ints)

pub down_some : (b from far : ℕ) → far ≤ from → pos (from - far) -ℤ pos b ≡ (pos from -ℤ pos b) -ℤ pos far
down_some b from far h = omega (arith, ints)

pub up_none : (from far : ℕ) → 2 ^ 128 ≤ from + far → None ≡ fitting ((pos from -ℤ pos (2 ^ 127)) +ℤ pos far)
up_none from far h = none_above ((pos from -ℤ pos (2 ^ 127)) +ℤ pos far) (over (2 ^ 127) from far h)

pub down_none : (from far : ℕ) → from < far → None ≡ fitting ((pos from -ℤ pos (2 ^ 127)) -ℤ pos far)
down_none from far h = none_below ((pos from -ℤ pos (2 ^ 127)) -ℤ pos far) (under (2 ^ 127) from far h)

-- steps up and down
pub step_up : (s z : ℤ) (n : ℕ) → pos 0 ≤ℤ s → z +ℤ s *ℤ pos n ≡ z +ℤ pos (unsigned_abs s * n)
step_up (pos a) z n h = refl
step_up (negsuc a) z n h = absurd (omega (arith, ints))

minus : (z : ℤ) (m : ℕ) → z +ℤ neg_ℤ (pos m) ≡ z -ℤ pos m
minus z m = omega (arith, ints)

pub step_down : (s z : ℤ) (n : ℕ) → s <ℤ pos 0 → z +ℤ s *ℤ pos n ≡ z -ℤ pos (unsigned_abs s * n)
step_down (pos a) z n h = absurd (omega (arith, ints))
step_down (negsuc a) z n h = minus z (suc a * n)

pub far_none : (s : ℤ) (from n : ℕ) → from < 2 ^ 128 → 2 ^ 128 ≤ unsigned_abs s * n → None ≡ fitting ((pos from -ℤ pos (2 ^ 127)) +ℤ s *ℤ pos n)
far_none (pos a) from n h k = none_above ((pos from -ℤ pos (2 ^ 127)) +ℤ pos (a * n)) (far_over (2 ^ 127) from (a * n) k)
far_none (negsuc a) from n h k =
    rw (minus (pos from -ℤ pos (2 ^ 127)) (suc a * n)) (none_below ((pos from -ℤ pos (2 ^ 127)) -ℤ pos (suc a * n)) (far_under (2 ^ 127) from (suc a * n) h k))
