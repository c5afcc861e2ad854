-- Order under a budget.
use Rattle.std.proofs.Common.{ℕ, zero, suc, ◌+◌, ◌-◌, ◌<◌, ◌≤◌, Bool, true, false, get_or, add-one, List, [], ◌∷◌, ◌≡◌, refl, sym, ap, arith, length, drop, slice_get, eqb}
use Rattle.std.proofs.lemmas.Grind.{common_steps}
use Rattle.py_values.specs.declared.object.Obj.{Obj}
use Rattle.py_values.specs.declared.value.ObjId.{ObjId}
use Rattle.py_values.specs.declared.value.Value.{Value}
use Rattle.py_values.specs.Numbers.{int_value}
use Rattle.py_compare.specs.Equal.{ComparisonResult, finding, ComparisonVerdict, Holds, Fails, told, objs_equal, equal_to, plain_equal}
use Rattle.py_compare.specs.Equal as equal
use Rattle.py_compare.specs.Order.{OrderVerdict, Less, Same, More, Deep, Unordered, OrderResult, placed, behind, next, place_within, place_shifted, chars_order, rows_order, unlike, unlike_told, less_by, less_told, order_to, objs_order, order_by, refs_of, numbers_order}
use Rattle.py_compare.specs.declared.tested.Comparison.{Comparison}
use Rattle.py_compare.specs.declared.tested.Comparison.TheVariants as ordered

pub place_over : (budget : ℕ) (f : OrderResult) → budget < f.cost → ordered.Exhausted ≡ place_within budget f
place_over budget f h = grind (arith, common_steps)

-- an order that has used all of its budget, and goes on
pub place_spent : (budget used : ℕ) (f g : OrderResult) → f ≡ behind used g → budget ≤ used → 0 < g.cost → ordered.Exhausted ≡ place_within budget f
place_spent budget used f g e h k = place_over budget f (rw e (omega arith))

pub chars_cost : (xs ys : List ℕ) (i : ℕ) → i < length xs → i < length ys → 0 < (chars_order (drop i xs) (drop i ys)).cost
chars_cost [] ys i h k = absurd (omega arith)
chars_cost (x ∷ xs) [] i h k = absurd (omega arith)
chars_cost (x ∷ xs) (y ∷ ys) zero h k = omega arith
chars_cost (x ∷ xs) (y ∷ ys) (suc i) h k = chars_cost xs ys i (omega arith) (omega arith)

pub rows_cost : (f : Value → Value → OrderResult) (xs ys : List Value) (i : ℕ) → i < length xs → i < length ys
    → 0 < (rows_order f (drop i xs) (drop i ys)).cost
rows_cost f [] ys i h k = absurd (omega arith)
rows_cost f (x ∷ xs) [] i h k = absurd (omega arith)
rows_cost f (x ∷ xs) (y ∷ ys) zero h k = omega arith
rows_cost f (x ∷ xs) (y ∷ ys) (suc i) h k = rows_cost f xs ys i (omega arith) (omega arith)

-- where a row ends
pub chars_less : (xs ys : List ℕ) (i : ℕ) → i ≡ length xs → length xs < length ys → chars_order (drop i xs) (drop i ys) ≡ placed Less 0
chars_less [] [] i e h = absurd (omega arith)
chars_less [] (y ∷ ys) zero e h = refl
chars_less [] (y ∷ ys) (suc i) e h = absurd (omega arith)
chars_less (x ∷ xs) [] i e h = absurd (omega arith)
chars_less (x ∷ xs) (y ∷ ys) zero e h = absurd (omega arith)
chars_less (x ∷ xs) (y ∷ ys) (suc i) e h = chars_less xs ys i (omega arith) (omega arith)

pub chars_more : (xs ys : List ℕ) (i : ℕ) → i ≡ length ys → length ys < length xs → chars_order (drop i xs) (drop i ys) ≡ placed More 0
chars_more [] ys i e h = absurd (omega arith)
chars_more (x ∷ xs) [] zero e h = refl
chars_more (x ∷ xs) [] (suc i) e h = absurd (omega arith)
chars_more (x ∷ xs) (y ∷ ys) zero e h = absurd (omega arith)
chars_more (x ∷ xs) (y ∷ ys) (suc i) e h = chars_more xs ys i (omega arith) (omega arith)

pub chars_same : (xs ys : List ℕ) (i : ℕ) → i ≡ length xs → length ys ≡ length xs → chars_order (drop i xs) (drop i ys) ≡ placed Same 0
chars_same [] [] zero e h = refl
chars_same [] [] (suc i) e h = absurd (omega arith)
chars_same [] (y ∷ ys) i e h = absurd (omega arith)
chars_same (x ∷ xs) [] i e h = absurd (omega arith)
chars_same (x ∷ xs) (y ∷ ys) zero e h = absurd (omega arith)
chars_same (x ∷ xs) (y ∷ ys) (suc i) e h = chars_same xs ys i (omega arith) (omega arith)

pub rows_less : (f : Value → Value → OrderResult) (xs ys : List Value) (i : ℕ) → i ≡ length xs → length xs < length ys
    → rows_order f (drop i xs) (drop i ys) ≡ placed Less 0
rows_less f [] [] i e h = absurd (omega arith)
rows_less f [] (y ∷ ys) zero e h = refl
rows_less f [] (y ∷ ys) (suc i) e h = absurd (omega arith)
rows_less f (x ∷ xs) [] i e h = absurd (omega arith)
rows_less f (x ∷ xs) (y ∷ ys) zero e h = absurd (omega arith)
rows_less f (x ∷ xs) (y ∷ ys) (suc i) e h = rows_less f xs ys i (omega arith) (omega arith)

pub rows_more : (f : Value → Value → OrderResult) (xs ys : List Value) (i : ℕ) → i ≡ length ys → length ys < length xs
    → rows_order f (drop i xs) (drop i ys) ≡ placed More 0
rows_more f [] ys i e h = absurd (omega arith)
rows_more f (x ∷ xs) [] zero e h = refl
rows_more f (x ∷ xs) [] (suc i) e h = absurd (omega arith)
rows_more f (x ∷ xs) (y ∷ ys) zero e h = absurd (omega arith)
rows_more f (x ∷ xs) (y ∷ ys) (suc i) e h = rows_more f xs ys i (omega arith) (omega arith)

pub rows_same : (f : Value → Value → OrderResult) (xs ys : List Value) (i : ℕ) → i ≡ length xs → length ys ≡ length xs
    → rows_order f (drop i xs) (drop i ys) ≡ placed Same 0
rows_same f [] [] zero e h = refl
rows_same f [] [] (suc i) e h = absurd (omega arith)
rows_same f [] (y ∷ ys) i e h = absurd (omega arith)
rows_same f (x ∷ xs) [] i e h = absurd (omega arith)
rows_same f (x ∷ xs) (y ∷ ys) zero e h = absurd (omega arith)
rows_same f (x ∷ xs) (y ∷ ys) (suc i) e h = rows_same f xs ys i (omega arith) (omega arith)

-- the end of an order within its budget
pub place_less : (budget used i : ℕ) (f g : OrderResult) → f ≡ behind i g → g ≡ placed Less 0 → i ≡ used → i ≤ budget → ordered.Less used ≡ place_within budget f
place_less budget used i f g e k j h = grind (arith, common_steps)

pub place_more : (budget used i : ℕ) (f g : OrderResult) → f ≡ behind i g → g ≡ placed More 0 → i ≡ used → i ≤ budget → ordered.More used ≡ place_within budget f
place_more budget used i f g e k j h = grind (arith, common_steps)

pub place_same : (budget used i : ℕ) (f g : OrderResult) → f ≡ behind i g → g ≡ placed Same 0 → i ≡ used → i ≤ budget → ordered.Same used ≡ place_within budget f
place_same budget used i f g e k j h = grind (arith, common_steps)

unlike_case : (budget : ℕ) (v : ComparisonVerdict) (n : ℕ) → unlike_told (told budget (finding v n)) ≡ place_within budget (unlike (finding v n))
unlike_case budget Holds n = grind (arith, common_steps)
unlike_case budget Fails n = grind (arith, common_steps)
unlike_case budget equal.Deep n = grind (arith, common_steps)
unlike_case budget equal.Unordered n = grind (arith, common_steps)

pub unlike_within : (budget : ℕ) (f : ComparisonResult) → unlike_told (told budget f) ≡ place_within budget (unlike f)
unlike_within budget f = unlike_case budget f.verdict f.cost

less_case : (budget : ℕ) (p : OrderVerdict) (n : ℕ) → less_told (place_within budget (placed p n)) ≡ told budget (less_by p n)
less_case budget Less n = grind (arith, common_steps)
less_case budget Same n = grind (arith, common_steps)
less_case budget More n = grind (arith, common_steps)
less_case budget Deep n = grind (arith, common_steps)
less_case budget Unordered n = grind (arith, common_steps)

pub less_within : (budget : ℕ) (f : OrderResult) → less_told (place_within budget f) ≡ told budget (less_by f.place f.cost)
less_within budget f = less_case budget f.place f.cost

pub order_step : (n : ℕ) (h : List Obj) (a b : Value) → 0 < n
    → order_to n h a b
    ≡ order_by (λ i j. objs_order (order_to (n - 1) h) (unlike (objs_equal (equal_to (n - 1) h) (eqb i.at j.at) (slice_get h i.at) (slice_get h j.at))) (slice_get h i.at) (slice_get h j.at))
    (numbers_order (unlike (equal.holds_if (plain_equal a b))) (int_value a) (int_value b)) (refs_of a b)
order_step zero h a b lt = absurd (omega arith)
order_step (suc n) h a b lt =
    let e : suc n - 1 ≡ n = omega arith in
    ap (λ (m : ℕ). order_by (λ i j. objs_order (order_to m h) (unlike (objs_equal (equal_to m h) (eqb i.at j.at) (slice_get h i.at) (slice_get h j.at))) (slice_get h i.at) (slice_get h j.at))
    (numbers_order (unlike (equal.holds_if (plain_equal a b))) (int_value a) (int_value b)) (refs_of a b)) (sym e)

abbrev pub is_same : Comparison → Bool
is_same (ordered.Less n) = false
is_same (ordered.Same n) = true
is_same (ordered.More n) = false
is_same (ordered.TooDeep n) = false
is_same (ordered.NotOrdered n) = false
is_same ordered.Exhausted = false

-- a pair that ends an order
pub place_stop : (left used : ℕ) (w g : OrderResult) (p : OrderVerdict) (m : ℕ) (t : Comparison)
    → w ≡ behind used (behind 1 (next (placed p m) g)) → used < left → t ≡ place_within (left - used - 1) (placed p m) → is_same t ≡ false
    → place_shifted (used + 1) t ≡ place_within left w
place_stop left used w g Less m t e h k n = grind (arith, common_steps)
place_stop left used w g Same m t e h k n = grind (arith, common_steps)
place_stop left used w g More m t e h k n = grind (arith, common_steps)
place_stop left used w g Deep m t e h k n = grind (arith, common_steps)
place_stop left used w g Unordered m t e h k n = grind (arith, common_steps)

pub rows_step : (f : Value → Value → OrderResult) (xs ys : List Value) (i : ℕ) (d e : Value) → i < length xs → i < length ys
    → rows_order f (drop i xs) (drop i ys) ≡ behind 1 (next (f (get_or xs i d) (get_or ys i e)) (rows_order f (drop (i + 1) xs) (drop (i + 1) ys)))
rows_step f [] ys i d e h k = absurd (omega arith)
rows_step f (x ∷ xs) [] i d e h k = absurd (omega arith)
rows_step f (x ∷ xs) (y ∷ ys) zero d e h k = refl
rows_step f (x ∷ xs) (y ∷ ys) (suc i) d e h k = rw (add-one (suc i)) (rw (add-one i) at (rows_step f xs ys i d e (omega arith) (omega arith)))
