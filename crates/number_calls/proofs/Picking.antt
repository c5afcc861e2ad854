-- The best of elements under a budget.
use Rattle.std.proofs.Common.{ℕ, ◌+◌, ◌-◌, ◌<◌, ◌≤◌, Bool, true, false, List, [], ◌∷◌, ◌≡◌, ◌∙◌, refl, ap, arith, length, drop, get_or, add-one, drop-cons, Some, None}
use Rattle.std.proofs.lemmas.Grind.{common_steps}
use Rattle.std.specs.Prelude.{nat_lt, if◌then◌else◌, option_map}
use Rattle.text_methods.specs.call_products.Products.{plain, product_within}
use Rattle.number_calls.specs.Best.{pick_by, pick_of, pick_told, pick_cost, pick_within, best_by, best_from}
use Rattle.number_calls.specs.declared.best.Pick.{Pick}
use Rattle.number_calls.specs.declared.best.Pick.TheVariants.{Best, Refuse}
use Rattle.py_compare.specs.Order.{OrderVerdict, place_within, place_told, order_of}
use Rattle.py_compare.specs.Order as place
use Rattle.py_compare.specs.declared.tested.Comparison.TheVariants as ordered
use Rattle.py_values.specs.Ends.{payable, cost_of}
use Rattle.py_values.specs.declared.end.Effect.{Effect}
use Rattle.py_values.specs.declared.end.Effect.TheVariants.{Give, Fail}
use Rattle.py_values.specs.declared.end.Raise.{Raise}
use Rattle.py_values.specs.declared.object.Obj.{Obj}
use Rattle.py_values.specs.declared.value.Value.{Value}

by_place : (l : Bool) (heap : List Obj) (a b : Value) (t : Bool) (p : OrderVerdict) (n : ℕ)
    → pick_told l heap a b (if t then ordered.Exhausted else place_told p n) ≡ (if t then None else Some (pick_by l heap a b p n))
by_place l heap a b true p n = refl
by_place l heap a b false place.Less n = refl
by_place l heap a b false place.Same n = refl
by_place l heap a b false place.More n = refl
by_place l heap a b false place.Deep n = refl
by_place l heap a b false place.Unordered n = refl

cost_by : (l : Bool) (heap : List Obj) (a b : Value) (p : OrderVerdict) (n : ℕ) → pick_cost (pick_by l heap a b p n) ≡ n
cost_by l heap a b place.Less n = refl
cost_by l heap a b place.Same n = refl
cost_by l heap a b place.More n = refl
cost_by l heap a b place.Deep n = refl
cost_by l heap a b place.Unordered n = refl

pub picks_within : (l : Bool) (budget : ℕ) (heap : List Obj) (a b : Value)
    → pick_told l heap a b (place_within budget (order_of heap a b)) ≡ pick_within budget (pick_of l heap a b)
picks_within l budget heap a b =
    rw (cost_by l heap a b (order_of heap a b).place (order_of heap a b).cost)
    (by_place l heap a b (nat_lt budget (order_of heap a b).cost) (order_of heap a b).place (order_of heap a b).cost)

-- a best costs at least what it begins with, and what its picks cost
by_pick : (p : Pick) (n : ℕ) (f : Value → ℕ → Effect) → ((v : Value) (m : ℕ) → m ≤ cost_of (f v m)) → n + pick_cost p ≤ cost_of (best_by p n f)
by_pick (Best v m) n f h = h v (n + m)
by_pick (Refuse r m) n f h = omega arith

best_cost : (l : Bool) (heap : List Obj) (b : Value) (n : ℕ) (vs : List Value) → n ≤ cost_of (best_from l heap b n vs)
best_cost l heap b n [] = omega arith
best_cost l heap b n (v ∷ vs) =
    let k : n + 2 + pick_cost (pick_of l heap v b) ≤ cost_of (best_from l heap b n (v ∷ vs))
    = by_pick (pick_of l heap v b) (n + 2) (λ w m. best_from l heap w m vs) (λ w m. best_cost l heap w m vs) in
    omega arith

best_step : (l : Bool) (heap : List Obj) (b : Value) (n : ℕ) (vs : List Value) (i : ℕ) (d : Value) → i < length vs
    → best_from l heap b n (drop i vs) ≡ best_by (pick_of l heap (get_or vs i d) b) (n + 2) (λ w m. best_from l heap w m (drop (i + 1) vs))
best_step l heap b n vs i d h = rw (add-one i, drop-cons vs i d h) refl

kept_by : (t : Bool) (budget n : ℕ) (p q : Pick) → (t ≡ false → n ≤ budget) → Some q ≡ (if t then None else Some p) → (p ≡ q) × (n ≤ budget)
kept_by true budget n p q f e = absurd (cc)
kept_by false budget n p q f e = (cc, f refl)

kept : (budget : ℕ) (p q : Pick) → Some q ≡ pick_within budget p → (p ≡ q) × (pick_cost p ≤ budget)
kept budget p q e = kept_by (nat_lt budget (pick_cost p)) budget (pick_cost p) p q (λ h. grind (arith, common_steps)) e

gone_by : (t : Bool) (budget n : ℕ) (p : Pick) → (t ≡ true → budget < n) → None ≡ (if t then None else Some p) → budget < n
gone_by true budget n p f e = f refl
gone_by false budget n p f e = absurd (cc)

gone : (budget : ℕ) (p : Pick) → None ≡ pick_within budget p → budget < pick_cost p
gone budget p e = gone_by (nat_lt budget (pick_cost p)) budget (pick_cost p) p (λ h. grind (arith, common_steps)) e

short : (budget : ℕ) (m : Effect) → budget < cost_of m → None ≡ payable budget m
short budget m h = grind (arith, common_steps)

enough : (budget : ℕ) (m : Effect) → cost_of m ≤ budget → Some m ≡ payable budget m
enough budget m h = grind (arith, common_steps)

-- turns of the loop over elements
pub best_goes : (l : Bool) (heap : List Obj) (b v : Value) (used n budget : ℕ) (vs : List Value) (i : ℕ) (d : Value) (all : Effect) → i < length vs
    → used + 2 ≤ budget → Some (Best v n) ≡ pick_within (budget - used - 2) (pick_of l heap (get_or vs i d) b) → all ≡ best_from l heap b used (drop i vs)
    → (all ≡ best_from l heap v (used + 2 + n) (drop (i + 1) vs)) × (used + 2 + n ≤ budget)
best_goes l heap b v used n budget vs i d all h k e f =
    let g : (pick_of l heap (get_or vs i d) b ≡ Best v n) × (pick_cost (pick_of l heap (get_or vs i d) b) ≤ budget - used - 2)
    = kept (budget - used - 2) (pick_of l heap (get_or vs i d) b) (Best v n) e in
    let c : pick_cost (pick_of l heap (get_or vs i d) b) ≡ n = ap pick_cost g.0 in
    (f ∙ (best_step l heap b used vs i d h ∙ ap (λ (p : Pick). best_by p (used + 2) (λ w m. best_from l heap w m (drop (i + 1) vs))) g.0), omega arith)

pub best_fails : (l : Bool) (heap : List Obj) (b : Value) (r : Raise) (used n budget : ℕ) (vs : List Value) (i : ℕ) (d : Value) (all : Effect) → i < length vs
    → used + 2 ≤ budget → Some (Refuse r n) ≡ pick_within (budget - used - 2) (pick_of l heap (get_or vs i d) b) → all ≡ best_from l heap b used (drop i vs)
    → (all ≡ Fail r (used + 2 + n)) × (used + 2 + n ≤ budget)
best_fails l heap b r used n budget vs i d all h k e f =
    let g : (pick_of l heap (get_or vs i d) b ≡ Refuse r n) × (pick_cost (pick_of l heap (get_or vs i d) b) ≤ budget - used - 2)
    = kept (budget - used - 2) (pick_of l heap (get_or vs i d) b) (Refuse r n) e in
    let c : pick_cost (pick_of l heap (get_or vs i d) b) ≡ n = ap pick_cost g.0 in
    (f ∙ (best_step l heap b used vs i d h ∙ ap (λ (p : Pick). best_by p (used + 2) (λ w m. best_from l heap w m (drop (i + 1) vs))) g.0), omega arith)

pub raised_within : (budget n : ℕ) (r : Raise) (all : Effect) → (all ≡ Fail r n) × (n ≤ budget) → Some (Fail r n) ≡ payable budget all
raised_within budget n r all e = rw e.0 (enough budget (Fail r n) e.1)

pub best_over : (l : Bool) (heap : List Obj) (b : Value) (used budget : ℕ) (vs : List Value) (i : ℕ) (d : Value) (all : Effect) → i < length vs
    → used + 2 ≤ budget → None ≡ pick_within (budget - used - 2) (pick_of l heap (get_or vs i d) b) → all ≡ best_from l heap b used (drop i vs)
    → None ≡ payable budget all
best_over l heap b used budget vs i d all h k e f =
    let g : budget - used - 2 < pick_cost (pick_of l heap (get_or vs i d) b) = gone (budget - used - 2) (pick_of l heap (get_or vs i d) b) e in
    let c : (used + 2) + pick_cost (pick_of l heap (get_or vs i d) b) ≤ cost_of (best_by (pick_of l heap (get_or vs i d) b) (used + 2) (λ w m. best_from l heap w m (drop (i + 1) vs)))
    = by_pick (pick_of l heap (get_or vs i d) b) (used + 2) (λ w m. best_from l heap w m (drop (i + 1) vs)) (λ w m. best_cost l heap w m (drop (i + 1) vs)) in
    let a : cost_of all ≡ cost_of (best_by (pick_of l heap (get_or vs i d) b) (used + 2) (λ w m. best_from l heap w m (drop (i + 1) vs)))
    = ap cost_of (f ∙ best_step l heap b used vs i d h) in
    short budget all (omega arith)

pub best_short : (l : Bool) (heap : List Obj) (b : Value) (used budget : ℕ) (vs : List Value) (i : ℕ) (d : Value) (all : Effect) → i < length vs
    → budget < used + 2 → all ≡ best_from l heap b used (drop i vs) → None ≡ payable budget all
best_short l heap b used budget vs i d all h k f =
    let c : (used + 2) + pick_cost (pick_of l heap (get_or vs i d) b) ≤ cost_of (best_by (pick_of l heap (get_or vs i d) b) (used + 2) (λ w m. best_from l heap w m (drop (i + 1) vs)))
    = by_pick (pick_of l heap (get_or vs i d) b) (used + 2) (λ w m. best_from l heap w m (drop (i + 1) vs)) (λ w m. best_cost l heap w m (drop (i + 1) vs)) in
    let a : cost_of all ≡ cost_of (best_by (pick_of l heap (get_or vs i d) b) (used + 2) (λ w m. best_from l heap w m (drop (i + 1) vs)))
    = ap cost_of (f ∙ best_step l heap b used vs i d h) in
    short budget all (omega arith)

pub none_within : (l : Bool) (heap : List Obj) (b : Value) (budget : ℕ) (vs : List Value) → budget ≡ 0 → None ≡ payable budget (best_from l heap b 1 vs)
none_within l heap b budget vs e =
    let c : 1 ≤ cost_of (best_from l heap b 1 vs) = best_cost l heap b 1 vs in short budget (best_from l heap b 1 vs) (omega arith)

pub best_given : (l : Bool) (heap : List Obj) (b : Value) (used budget : ℕ) (vs : List Value) (all : Effect) → used ≤ budget
    → all ≡ best_from l heap b used [] → Some (Give b used) ≡ payable budget all
best_given l heap b used budget vs all k f = rw f (enough budget (Give b used) k)

plain_by : (t : Bool) (m : Effect) → option_map plain (if t then None else Some m) ≡ (if t then None else Some (plain m))
plain_by true m = refl
plain_by false m = refl

pub plain_within : (budget : ℕ) (m : Effect) → option_map plain (payable budget m) ≡ product_within budget (plain m)
plain_within budget m = plain_by (nat_lt budget (cost_of m)) m
