-- Looking for the first equal element under a budget.
use Rattle.std.proofs.Common.{ℕ, zero, suc, ◌+◌, ◌-◌, ◌<◌, ◌≤◌, List, [], ◌∷◌, ◌≡◌, refl, arith, length, drop, get_or, add-one}
use Rattle.std.proofs.lemmas.Grind.{common_steps}
use Rattle.py_values.specs.declared.value.Value.{Value}
use Rattle.py_compare.specs.Equal.{ComparisonResult, finding, ComparisonVerdict, Holds, Fails, Deep, Unordered, after, told}
use Rattle.py_compare.specs.declared.tested.Tested.TheVariants.{Yes, No, TooDeep, NotOrdered, Exhausted}
use Rattle.py_ops.specs.Compare.{or_next, search_in}

pub search_turn : (f : Value → ComparisonResult) (vs : List Value) (i : ℕ) (d : Value) → i < length vs
    → search_in f (drop i vs) ≡ after 1 (or_next (f (get_or vs i d)).verdict (f (get_or vs i d)).cost (search_in f (drop (i + 1) vs)))
search_turn f [] i d h = absurd (omega arith)
search_turn f (x ∷ xs) zero d h = refl
search_turn f (x ∷ xs) (suc i) d h = rw (add-one (suc i)) (rw (add-one i) at (search_turn f xs i d (omega arith)))

pub search_cost : (f : Value → ComparisonResult) (vs : List Value) (i : ℕ) → i < length vs → 0 < (search_in f (drop i vs)).cost
search_cost f [] i h = absurd (omega arith)
search_cost f (x ∷ xs) zero h = omega arith
search_cost f (x ∷ xs) (suc i) h = search_cost f xs i (omega arith)

pub search_spent : (left used : ℕ) (w g : ComparisonResult) → w ≡ after used g → left ≤ used → 0 < g.cost → Exhausted ≡ told left w
search_spent left used w g e h k = grind (arith, common_steps)

-- what is told of the element at hand
pub search_yes : (left used n : ℕ) (w g : ComparisonResult) (v : ComparisonVerdict) (m : ℕ)
    → w ≡ after used (after 1 (or_next v m g)) → used < left → Yes n ≡ told (left - used - 1) (finding v m) → Yes (used + 1 + n) ≡ told left w
search_yes left used n w g Holds m e h k = grind (arith, common_steps)
search_yes left used n w g Fails m e h k = absurd (grind (arith, common_steps))
search_yes left used n w g Deep m e h k = absurd (grind (arith, common_steps))
search_yes left used n w g Unordered m e h k = absurd (grind (arith, common_steps))

pub search_deep : (left used n : ℕ) (w g : ComparisonResult) (v : ComparisonVerdict) (m : ℕ)
    → w ≡ after used (after 1 (or_next v m g)) → used < left → TooDeep n ≡ told (left - used - 1) (finding v m) → TooDeep (used + 1 + n) ≡ told left w
search_deep left used n w g Holds m e h k = absurd (grind (arith, common_steps))
search_deep left used n w g Fails m e h k = absurd (grind (arith, common_steps))
search_deep left used n w g Deep m e h k = grind (arith, common_steps)
search_deep left used n w g Unordered m e h k = absurd (grind (arith, common_steps))

pub search_unordered : (left used n : ℕ) (w g : ComparisonResult) (v : ComparisonVerdict) (m : ℕ)
    → w ≡ after used (after 1 (or_next v m g)) → used < left → NotOrdered n ≡ told (left - used - 1) (finding v m) → NotOrdered (used + 1 + n) ≡ told left w
search_unordered left used n w g Holds m e h k = absurd (grind (arith, common_steps))
search_unordered left used n w g Fails m e h k = absurd (grind (arith, common_steps))
search_unordered left used n w g Deep m e h k = absurd (grind (arith, common_steps))
search_unordered left used n w g Unordered m e h k = grind (arith, common_steps)

pub search_over : (left used : ℕ) (w g : ComparisonResult) (v : ComparisonVerdict) (m : ℕ)
    → w ≡ after used (after 1 (or_next v m g)) → used < left → Exhausted ≡ told (left - used - 1) (finding v m) → Exhausted ≡ told left w
search_over left used w g Holds m e h k = grind (arith, common_steps)
search_over left used w g Fails m e h k = grind (arith, common_steps)
search_over left used w g Deep m e h k = grind (arith, common_steps)
search_over left used w g Unordered m e h k = grind (arith, common_steps)

pub search_go : (left used n : ℕ) (w g : ComparisonResult) (v : ComparisonVerdict) (m : ℕ)
    → w ≡ after used (after 1 (or_next v m g)) → used < left → No n ≡ told (left - used - 1) (finding v m)
    → (w ≡ after (used + 1 + n) g) × (used + 1 + n ≤ left)
search_go left used n w g Holds m e h k = absurd (grind (arith, common_steps))
search_go left used n w g Fails m e h k = (grind (arith, common_steps), grind (arith, common_steps))
search_go left used n w g Deep m e h k = absurd (grind (arith, common_steps))
search_go left used n w g Unordered m e h k = absurd (grind (arith, common_steps))
