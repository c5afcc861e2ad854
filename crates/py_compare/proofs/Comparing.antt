-- Comparisons under a budget.
use Rattle.std.proofs.Common.{ℕ, zero, suc, ◌+◌, ◌-◌, ◌<◌, ◌≤◌, Bool, true, false, Option, Some, List, [], ◌∷◌, ◌≡◌, refl, sym, ap, arith, length, drop, slice_get, eqb, add-one}
use Rattle.std.proofs.lemmas.Grind.{common_steps}
use Rattle.py_values.specs.declared.dict.Pair.{Pair}
use Rattle.py_values.specs.declared.key.Atom.{Atom}
use Rattle.py_values.specs.declared.object.Obj.{Obj}
use Rattle.py_values.specs.declared.value.ObjId.{ObjId}
use Rattle.py_values.specs.declared.value.Value.{Value}
use Rattle.py_values.specs.declared.value.Value.TheVariants.{Ref}
use Rattle.py_compare.specs.Equal.{ComparisonResult, finding, ComparisonVerdict, Holds, Fails, Deep, Unordered, after, also, told, shifted, holds_if, chars_equal, rows_equal, pair_equal, pairs_equal, equal_to, objs_equal}
use Rattle.py_compare.specs.declared.tested.Tested.{Tested}
use Rattle.py_compare.specs.declared.tested.Tested.TheVariants.{Yes, No, TooDeep, NotOrdered, Exhausted}

pub told_over : (budget : ℕ) (f : ComparisonResult) → budget < f.cost → Exhausted ≡ told budget f
told_over budget f h = grind (arith, common_steps)

-- a comparison that has used all of its budget, and goes on
pub told_spent : (budget used : ℕ) (f g : ComparisonResult) → f ≡ after used g → budget ≤ used → 0 < g.cost → Exhausted ≡ told budget f
told_spent budget used f g e h k = told_over budget f (rw e (omega arith))

pub chars_cost : (xs ys : List ℕ) (i : ℕ) → i < length xs → length xs ≡ length ys → 0 < (chars_equal (drop i xs) (drop i ys)).cost
chars_cost [] ys i h e = absurd (omega arith)
chars_cost (x ∷ xs) [] i h e = absurd (omega arith)
chars_cost (x ∷ xs) (y ∷ ys) zero h e = omega arith
chars_cost (x ∷ xs) (y ∷ ys) (suc i) h e = chars_cost xs ys i (omega arith) (omega arith)

pub rows_cost : (f : Value → Value → ComparisonResult) (xs ys : List Value) (i : ℕ) → i < length xs → length xs ≡ length ys
    → 0 < (rows_equal f (drop i xs) (drop i ys)).cost
rows_cost f [] ys i h e = absurd (omega arith)
rows_cost f (x ∷ xs) [] i h e = absurd (omega arith)
rows_cost f (x ∷ xs) (y ∷ ys) zero h e = omega arith
rows_cost f (x ∷ xs) (y ∷ ys) (suc i) h e = rows_cost f xs ys i (omega arith) (omega arith)

pub equal_ref : (n : ℕ) (h : List Obj) (i j : ObjId) → 0 < n
    → equal_to n h (Ref i) (Ref j) ≡ objs_equal (equal_to (n - 1) h) (eqb i.at j.at) (slice_get h i.at) (slice_get h j.at)
equal_ref zero h i j lt = absurd (omega arith)
equal_ref (suc n) h i j lt =
    let e : suc n - 1 ≡ n = omega arith in
    ap (λ (m : ℕ). objs_equal (equal_to m h) (eqb i.at j.at) (slice_get h i.at) (slice_get h j.at)) (sym e)

pub pairs_step : (f : Value → Value → ComparisonResult) (a b : List (List Atom × Pair)) (i : ℕ) (k : List Atom) (p : Pair)
    → Some (k, p) ≡ slice_get a i
    → pairs_equal f (drop i a) b ≡ also (pair_equal f (k, p) b) (pairs_equal f (drop (i + 1) a) b)
pairs_step f [] b i k p h = cc
pairs_step f (e ∷ es) b zero k p h = cc
pairs_step f (e ∷ es) b (suc i) k p h = rw (add-one (suc i)) (rw (add-one i) at (pairs_step f es b i k p h))

abbrev pub is_yes : Tested → Bool
is_yes (Yes n) = true
is_yes (No n) = false
is_yes (TooDeep n) = false
is_yes (NotOrdered n) = false
is_yes Exhausted = false

-- a part that ends a comparison
pub told_stop : (left used : ℕ) (w g : ComparisonResult) (v : ComparisonVerdict) (m : ℕ) (t : Tested)
    → w ≡ after used (also (finding v m) g) → used ≤ left → t ≡ told (left - used) (finding v m) → is_yes t ≡ false
    → shifted used t ≡ told left w
told_stop left used w g Holds m t e h k n = grind (arith, common_steps)
told_stop left used w g Fails m t e h k n = grind (arith, common_steps)
told_stop left used w g Deep m t e h k n = grind (arith, common_steps)
told_stop left used w g Unordered m t e h k n = grind (arith, common_steps)

-- a part behind which a comparison goes on
pub told_go : (left used : ℕ) (w g : ComparisonResult) (v : ComparisonVerdict) (m n : ℕ)
    → w ≡ after used (also (finding v m) g) → used ≤ left → Yes n ≡ told (left - used) (finding v m)
    → (w ≡ after (used + n) g) × (used + n ≤ left)
told_go left used w g Holds m n e h k = (grind (arith, common_steps), grind (arith, common_steps))
told_go left used w g Fails m n e h k = absurd (grind (arith, common_steps))
told_go left used w g Deep m n e h k = absurd (grind (arith, common_steps))
told_go left used w g Unordered m n e h k = absurd (grind (arith, common_steps))
