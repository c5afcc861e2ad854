-- What is told of a comparison under a budget, back to its verdict and cost.
use Rattle.std.proofs.Common.{ℕ, ◌<◌, ◌≤◌, Bool, true, false, ◌≡◌, refl, arith}
use Rattle.std.proofs.lemmas.Grind.{common_steps}
use Rattle.std.specs.Prelude.{nat_lt, if◌then◌else◌}
use Rattle.py_compare.specs.Equal.{ComparisonResult, ComparisonVerdict, Holds, Fails, Deep, Unordered, told, verdict_told}
use Rattle.py_compare.specs.declared.tested.Tested.TheVariants.{Yes, No, TooDeep, NotOrdered, Exhausted}

yes_by : (t : Bool) (left n m : ℕ) (v : ComparisonVerdict) → (t ≡ false → m ≤ left) → Yes n ≡ (if t then Exhausted else verdict_told v m) → (v ≡ Holds) × (m ≡ n) × (m ≤ left)
yes_by true left n m v f e = absurd (cc)
yes_by false left n m Holds f e = (refl, cc, f refl)
yes_by false left n m Fails f e = absurd (cc)
yes_by false left n m Deep f e = absurd (cc)
yes_by false left n m Unordered f e = absurd (cc)

fits : (left m : ℕ) → nat_lt left m ≡ false → m ≤ left
fits left m h = grind (arith, common_steps)

exceeds : (left m : ℕ) → nat_lt left m ≡ true → left < m
exceeds left m h = grind (arith, common_steps)

pub told_yes : (left n : ℕ) (f : ComparisonResult) → Yes n ≡ told left f → (f.verdict ≡ Holds) × (f.cost ≡ n) × (f.cost ≤ left)
told_yes left n f e = yes_by (nat_lt left f.cost) left n f.cost f.verdict (fits left f.cost) e

no_by : (t : Bool) (left n m : ℕ) (v : ComparisonVerdict) → (t ≡ false → m ≤ left) → No n ≡ (if t then Exhausted else verdict_told v m) → (v ≡ Fails) × (m ≡ n) × (m ≤ left)
no_by true left n m v f e = absurd (cc)
no_by false left n m Holds f e = absurd (cc)
no_by false left n m Fails f e = (refl, cc, f refl)
no_by false left n m Deep f e = absurd (cc)
no_by false left n m Unordered f e = absurd (cc)

pub told_no : (left n : ℕ) (f : ComparisonResult) → No n ≡ told left f → (f.verdict ≡ Fails) × (f.cost ≡ n) × (f.cost ≤ left)
told_no left n f e = no_by (nat_lt left f.cost) left n f.cost f.verdict (fits left f.cost) e

deep_by : (t : Bool) (left n m : ℕ) (v : ComparisonVerdict) → (t ≡ false → m ≤ left) → TooDeep n ≡ (if t then Exhausted else verdict_told v m) → (v ≡ Deep) × (m ≡ n) × (m ≤ left)
deep_by true left n m v f e = absurd (cc)
deep_by false left n m Holds f e = absurd (cc)
deep_by false left n m Fails f e = absurd (cc)
deep_by false left n m Deep f e = (refl, cc, f refl)
deep_by false left n m Unordered f e = absurd (cc)

pub told_deep : (left n : ℕ) (f : ComparisonResult) → TooDeep n ≡ told left f → (f.verdict ≡ Deep) × (f.cost ≡ n) × (f.cost ≤ left)
told_deep left n f e = deep_by (nat_lt left f.cost) left n f.cost f.verdict (fits left f.cost) e

unordered_by : (t : Bool) (left n m : ℕ) (v : ComparisonVerdict) → (t ≡ false → m ≤ left) → NotOrdered n ≡ (if t then Exhausted else verdict_told v m) → (v ≡ Unordered) × (m ≡ n) × (m ≤ left)
unordered_by true left n m v f e = absurd (cc)
unordered_by false left n m Holds f e = absurd (cc)
unordered_by false left n m Fails f e = absurd (cc)
unordered_by false left n m Deep f e = absurd (cc)
unordered_by false left n m Unordered f e = (refl, cc, f refl)

pub told_unordered : (left n : ℕ) (f : ComparisonResult) → NotOrdered n ≡ told left f → (f.verdict ≡ Unordered) × (f.cost ≡ n) × (f.cost ≤ left)
told_unordered left n f e = unordered_by (nat_lt left f.cost) left n f.cost f.verdict (fits left f.cost) e

over_by : (t : Bool) (left m : ℕ) (v : ComparisonVerdict) → (t ≡ true → left < m) → Exhausted ≡ (if t then Exhausted else verdict_told v m) → left < m
over_by true left m v f e = f refl
over_by false left m Holds f e = absurd (cc)
over_by false left m Fails f e = absurd (cc)
over_by false left m Deep f e = absurd (cc)
over_by false left m Unordered f e = absurd (cc)

pub told_over : (left : ℕ) (f : ComparisonResult) → Exhausted ≡ told left f → left < f.cost
told_over left f e = over_by (nat_lt left f.cost) left f.cost f.verdict (exceeds left f.cost) e
