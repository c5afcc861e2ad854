-- What is made of a comparison under a budget.
use Rattle.std.proofs.Common.{ℕ, ◌≡◌, Bool, true, false, nat_lt, if◌then◌else◌, Some, None, refl}
use Rattle.py_ops.specs.Compare.{judged, judged_found, judged_told, placed_by, ordered_by, placed_told}
use Rattle.py_ops.specs.declared.compare.Places.{Places}
use Rattle.py_values.specs.Ends.{payable, cost_of}
use Rattle.py_compare.specs.Equal.{ComparisonResult, ComparisonVerdict, Holds, Fails, Deep, Unordered, told, verdict_told}
use Rattle.py_compare.specs.Order.{OrderVerdict, OrderResult, place_within, place_told}
use Rattle.py_compare.specs.Order as place
use Rattle.py_compare.specs.declared.tested.Comparison.TheVariants as ordered
use Rattle.py_compare.specs.declared.tested.Tested.TheVariants as tested
use Rattle.py_values.specs.declared.end.Raise.{Raise}

by_verdict : (w b : Bool) (v : ComparisonVerdict) (n : ℕ)
    → judged_told w (if b then tested.Exhausted else verdict_told v n) ≡ (if b then None else Some (judged w v n))
by_verdict w true v n = refl
by_verdict w false Holds n = refl
by_verdict w false Fails n = refl
by_verdict w false Deep n = refl
by_verdict w false Unordered n = refl

judged_cost : (w : Bool) (v : ComparisonVerdict) (n : ℕ) → cost_of (judged w v n) ≡ n
judged_cost w Holds n = refl
judged_cost w Fails n = refl
judged_cost w Deep n = refl
judged_cost w Unordered n = refl

pub judged_within : (w : Bool) (budget : ℕ) (f : ComparisonResult) → judged_told w (told budget f) ≡ payable budget (judged_found w f)
judged_within w budget f = rw (judged_cost w f.verdict f.cost) (by_verdict w (nat_lt budget f.cost) f.verdict f.cost)

by_place : (r : Raise) (h : Places) (b : Bool) (p : OrderVerdict) (n : ℕ)
    → placed_told r h (if b then ordered.Exhausted else place_told p n) ≡ (if b then None else Some (placed_by r h p n))
by_place r h true p n = refl
by_place r h false place.Less n = refl
by_place r h false place.Same n = refl
by_place r h false place.More n = refl
by_place r h false place.Deep n = refl
by_place r h false place.Unordered n = refl

placed_cost : (r : Raise) (h : Places) (p : OrderVerdict) (n : ℕ) → cost_of (placed_by r h p n) ≡ n
placed_cost r h place.Less n = refl
placed_cost r h place.Same n = refl
placed_cost r h place.More n = refl
placed_cost r h place.Deep n = refl
placed_cost r h place.Unordered n = refl

pub placed_within : (r : Raise) (h : Places) (budget : ℕ) (f : OrderResult) → placed_told r h (place_within budget f) ≡ payable budget (ordered_by r h f)
placed_within r h budget f = rw (placed_cost r h f.place f.cost) (by_place r h (nat_lt budget f.cost) f.place f.cost)
