-- Ranges element by element.
use Rattle.std.proofs.Common.{ℕ, zero, suc, ◌+◌, ◌<◌, ◌≡◌, ◌≢◌, ap, Bool, true, false, ℤ, ◌+ℤ◌, refl, sym, arith}
use Rattle.std.specs.Ordering.{int_eq}
use Rattle.std.proofs.lemmas.Bool.{false_from_ne_true}
use Rattle.std.proofs.lemmas.Bool.Decides.{Decides-int_eq}
use Rattle.std.proofs.lemmas.Int.{ints}
use Rattle.std.proofs.lemmas.Grind.{common_steps}
use Rattle.py_values.specs.Ranges.{progression, range_items}
use Rattle.py_values.specs.declared.range.RangeObj.{RangeObj}
use Rattle.py_compare.specs.Equal.{ComparisonResult, finding, after, Holds, Fails, numbers_equal, told, of_length}

int_same : (x : ℤ) → int_eq x x ≡ true
int_same x = (Decides-int_eq x x).1 refl

int_differ : (x y : ℤ) → x ≢ y → int_eq x y ≡ false
int_differ x y h = false_from_ne_true (int_eq x y) (λ e. h ((Decides-int_eq x y).0 e))

pub alike : (z d : ℤ) (n : ℕ) → numbers_equal (progression z d n) (progression z d n) ≡ finding Holds n
alike z d zero = refl
alike z d (suc n) =
    let e : 1 + n ≡ suc n = omega arith in
    rw (int_same z, alike (z +ℤ d) d n) (ap (finding Holds) e)

pub first_differs : (z w d e : ℤ) (n : ℕ) → z ≢ w → numbers_equal (progression z d (suc n)) (progression w e (suc n)) ≡ finding Fails 1
first_differs z w d e n h = rw (int_differ z w h) refl

sums_differ : (z d e : ℤ) → d ≢ e → (z +ℤ d) ≢ (z +ℤ e)
sums_differ z d e h k = h (omega (arith, ints))

pub second_differs : (z d e : ℤ) (n : ℕ) → d ≢ e
    → numbers_equal (progression z d (suc (suc n))) (progression z e (suc (suc n))) ≡ finding Fails 2
second_differs z d e n h = rw (int_same z, int_differ (z +ℤ d) (z +ℤ e) (sums_differ z d e h)) refl

-- the same of ranges whose lengths are equal
by_length : (z w d e : ℤ) (n m : ℕ) → n ≡ m → z ≢ w → 0 < n → numbers_equal (progression z d n) (progression w e m) ≡ finding Fails 1
by_length z w d e zero m k h lt = absurd (omega arith)
by_length z w d e (suc n) zero k h lt = absurd (omega arith)
by_length z w d e (suc n) (suc m) k h lt = rw (int_differ z w h) refl

pub starts_differ : (a b : RangeObj) → a.length ≡ b.length → 0 < a.length → a.start ≢ b.start → numbers_equal (range_items a) (range_items b) ≡ finding Fails 1
starts_differ a b k lt h = by_length a.start b.start a.step b.step a.length b.length k h lt

one_long : (z w d e : ℤ) (n m : ℕ) → n ≡ m → n ≡ 1 → z ≡ w → numbers_equal (progression z d n) (progression w e m) ≡ finding Holds 1
one_long z w d e n m k one same = rw (← k, one, ← same, int_same z) refl

pub one_element : (a b : RangeObj) → a.length ≡ b.length → a.length ≡ 1 → a.start ≡ b.start → numbers_equal (range_items a) (range_items b) ≡ finding Holds 1
one_element a b k one same = one_long a.start b.start a.step b.step a.length b.length k one same

steps_by : (z w d e : ℤ) (n m : ℕ) → n ≡ m → 1 < n → z ≡ w → d ≢ e → numbers_equal (progression z d n) (progression w e m) ≡ finding Fails 2
steps_by z w d e zero m k lt same h = absurd (omega arith)
steps_by z w d e (suc zero) m k lt same h = absurd (omega arith)
steps_by z w d e (suc (suc n)) m k lt same h = rw (← k, ← same) (second_differs z d e n h)

pub steps_differ : (a b : RangeObj) → a.length ≡ b.length → 1 < a.length → a.start ≡ b.start → a.step ≢ b.step
    → numbers_equal (range_items a) (range_items b) ≡ finding Fails 2
steps_differ a b k lt same h = steps_by a.start b.start a.step b.step a.length b.length k lt same h

all_by : (z w d e : ℤ) (n m : ℕ) → n ≡ m → z ≡ w → d ≡ e → numbers_equal (progression z d n) (progression w e m) ≡ finding Holds n
all_by z w d e n m k same step = rw (← k, ← same, ← step) (alike z d n)

pub all_alike : (a b : RangeObj) → a.length ≡ b.length → a.start ≡ b.start → a.step ≡ b.step → numbers_equal (range_items a) (range_items b) ≡ finding Holds a.length
all_alike a b k same step = all_by a.start b.start a.step b.step a.length b.length k same step

-- where lengths are equal, what is told is that of the comparison
pub length_told : (budget n m : ℕ) (f g : ComparisonResult) → n ≡ m → g ≡ f → told budget f ≡ told budget (of_length n m g)
length_told budget n m f g k e = rw (e, k) (grind (arith, common_steps))
