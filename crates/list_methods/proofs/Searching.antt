-- Turns of the search and of the count under a budget.
use Rattle.std.proofs.Common.{ℕ, suc, ◌+◌, ◌-◌, ◌<◌, ◌≤◌, List, [], ◌∷◌, ◌≡◌, ◌∙◌, refl, ap, arith, length, drop, get_or, add-one, drop-cons, Some, None}
use Rattle.std.proofs.lemmas.Grind.{common_steps}
use Rattle.list_methods.specs.Search.{search_by, search_from, search_cost, search_within, tally_by, tally_from, tally_cost, tally_within}
use Rattle.list_methods.specs.declared.search.Search.{Search}
use Rattle.list_methods.specs.declared.search.Search.TheVariants as search
use Rattle.list_methods.specs.declared.search.Tally.{Tally}
use Rattle.list_methods.specs.declared.search.Tally.TheVariants as tally
use Rattle.py_compare.specs.Equal.{ComparisonResult, ComparisonVerdict, Holds, Fails, Deep, Unordered, told}
use Rattle.py_compare.specs.declared.tested.Tested.TheVariants.{Yes, No, TooDeep, NotOrdered, Exhausted}
use Rattle.py_values.specs.declared.value.Value.{Value}
use Rattle.list_methods.proofs.Telling.{told_yes, told_no, told_deep, told_unordered, told_over}

search_least_by : (v : ComparisonVerdict) (n i : ℕ) (f : ℕ → Search) → ((m : ℕ) → m ≤ search_cost (f m)) → n ≤ search_cost (search_by v n i f)
search_least_by Holds n i f h = omega arith
search_least_by Fails n i f h = h n
search_least_by Deep n i f h = omega arith
search_least_by Unordered n i f h = omega arith

search_least : (f : Value → ComparisonResult) (i n : ℕ) (xs : List Value) → n ≤ search_cost (search_from f i n xs)
search_least f i n [] = omega arith
search_least f i n (x ∷ xs) =
    let k : n + (f x).cost ≤ search_cost (search_from f i n (x ∷ xs))
    = search_least_by (f x).verdict (n + (f x).cost) i (λ m. search_from f (suc i) m xs) (λ m. search_least f (suc i) m xs) in
    omega arith

search_step : (f : Value → ComparisonResult) (n : ℕ) (xs : List Value) (i : ℕ) (d : Value) → i < length xs
    → search_from f i n (drop i xs) ≡ search_by (f (get_or xs i d)).verdict (n + (f (get_or xs i d)).cost) i (λ m. search_from f (i + 1) m (drop (i + 1) xs))
search_step f n xs i d h = rw (add-one i, drop-cons xs i d h) refl

search_short : (budget : ℕ) (s : Search) → budget < search_cost s → None ≡ search_within budget s
search_short budget s h = grind (arith, common_steps)

search_enough : (budget : ℕ) (s : Search) → search_cost s ≤ budget → Some s ≡ search_within budget s
search_enough budget s h = grind (arith, common_steps)

pub search_none : (f : Value → ComparisonResult) (i n budget : ℕ) (xs : List Value) → budget < n → None ≡ search_within budget (search_from f i n xs)
search_none f i n budget xs h =
    let k : n ≤ search_cost (search_from f i n xs) = search_least f i n xs in search_short budget (search_from f i n xs) (omega arith)

pub search_over : (f : Value → ComparisonResult) (n budget : ℕ) (xs : List Value) (i : ℕ) (d : Value) (all : Search) → i < length xs → n ≤ budget
    → all ≡ search_from f i n (drop i xs) → Exhausted ≡ told (budget - n) (f (get_or xs i d)) → None ≡ search_within budget all
search_over f n budget xs i d all h e g t =
    let o : budget - n < (f (get_or xs i d)).cost = told_over (budget - n) (f (get_or xs i d)) t in
    let k : n + (f (get_or xs i d)).cost ≤ search_cost (search_by (f (get_or xs i d)).verdict (n + (f (get_or xs i d)).cost) i (λ m. search_from f (i + 1) m (drop (i + 1) xs)))
    = search_least_by (f (get_or xs i d)).verdict (n + (f (get_or xs i d)).cost) i (λ m. search_from f (i + 1) m (drop (i + 1) xs)) (λ m. search_least f (i + 1) m (drop (i + 1) xs)) in
    let a : search_cost all ≡ search_cost (search_by (f (get_or xs i d)).verdict (n + (f (get_or xs i d)).cost) i (λ m. search_from f (i + 1) m (drop (i + 1) xs)))
    = ap search_cost (g ∙ search_step f n xs i d h) in
    search_short budget all (omega arith)

pub search_hits : (f : Value → ComparisonResult) (n m budget : ℕ) (xs : List Value) (i : ℕ) (d : Value) (all : Search) → i < length xs → n ≤ budget
    → all ≡ search_from f i n (drop i xs) → Yes m ≡ told (budget - n) (f (get_or xs i d)) → Some (search.At i (n + m)) ≡ search_within budget all
search_hits f n m budget xs i d all h e g t =
    let o : ((f (get_or xs i d)).verdict ≡ Holds) × ((f (get_or xs i d)).cost ≡ m) × ((f (get_or xs i d)).cost ≤ budget - n) = told_yes (budget - n) m (f (get_or xs i d)) t in
    let a : all ≡ search.At i (n + m) = g ∙ (search_step f n xs i d h ∙ rw (o.0, o.1) refl) in
    rw a (search_enough budget (search.At i (n + m)) (omega arith))

pub search_goes : (f : Value → ComparisonResult) (n m budget : ℕ) (xs : List Value) (i : ℕ) (d : Value) (all : Search) → i < length xs → n ≤ budget
    → all ≡ search_from f i n (drop i xs) → No m ≡ told (budget - n) (f (get_or xs i d))
    → (all ≡ search_from f (i + 1) (n + m) (drop (i + 1) xs)) × (n + m ≤ budget)
search_goes f n m budget xs i d all h e g t =
    let o : ((f (get_or xs i d)).verdict ≡ Fails) × ((f (get_or xs i d)).cost ≡ m) × ((f (get_or xs i d)).cost ≤ budget - n) = told_no (budget - n) m (f (get_or xs i d)) t in
    (g ∙ (search_step f n xs i d h ∙ rw (o.0, o.1) refl), omega arith)

pub search_sinks : (f : Value → ComparisonResult) (n m budget : ℕ) (xs : List Value) (i : ℕ) (d : Value) (all : Search) → i < length xs → n ≤ budget
    → all ≡ search_from f i n (drop i xs) → TooDeep m ≡ told (budget - n) (f (get_or xs i d)) → Some (search.TooDeep (n + m)) ≡ search_within budget all
search_sinks f n m budget xs i d all h e g t =
    let o : ((f (get_or xs i d)).verdict ≡ Deep) × ((f (get_or xs i d)).cost ≡ m) × ((f (get_or xs i d)).cost ≤ budget - n) = told_deep (budget - n) m (f (get_or xs i d)) t in
    let a : all ≡ search.TooDeep (n + m) = g ∙ (search_step f n xs i d h ∙ rw (o.0, o.1) refl) in
    rw a (search_enough budget (search.TooDeep (n + m)) (omega arith))

pub search_breaks : (f : Value → ComparisonResult) (n m budget : ℕ) (xs : List Value) (i : ℕ) (d : Value) (all : Search) → i < length xs → n ≤ budget
    → all ≡ search_from f i n (drop i xs) → NotOrdered m ≡ told (budget - n) (f (get_or xs i d)) → Some (search.TooDeep (n + m)) ≡ search_within budget all
search_breaks f n m budget xs i d all h e g t =
    let o : ((f (get_or xs i d)).verdict ≡ Unordered) × ((f (get_or xs i d)).cost ≡ m) × ((f (get_or xs i d)).cost ≤ budget - n) = told_unordered (budget - n) m (f (get_or xs i d)) t in
    let a : all ≡ search.TooDeep (n + m) = g ∙ (search_step f n xs i d h ∙ rw (o.0, o.1) refl) in
    rw a (search_enough budget (search.TooDeep (n + m)) (omega arith))

pub search_ends : (f : Value → ComparisonResult) (n budget : ℕ) (i : ℕ) (all : Search) → n ≤ budget → all ≡ search_from f i n [] → Some (search.Nowhere n) ≡ search_within budget all
search_ends f n budget i all h g = rw g (search_enough budget (search.Nowhere n) h)

tally_least_by : (v : ComparisonVerdict) (n k : ℕ) (f : ℕ → ℕ → Tally) → ((j m : ℕ) → m ≤ tally_cost (f j m)) → n ≤ tally_cost (tally_by v n k f)
tally_least_by Holds n k f h = h (suc k) n
tally_least_by Fails n k f h = h k n
tally_least_by Deep n k f h = omega arith
tally_least_by Unordered n k f h = omega arith

tally_least : (f : Value → ComparisonResult) (k n : ℕ) (xs : List Value) → n ≤ tally_cost (tally_from f k n xs)
tally_least f k n [] = omega arith
tally_least f k n (x ∷ xs) =
    let e : n + (f x).cost ≤ tally_cost (tally_from f k n (x ∷ xs))
    = tally_least_by (f x).verdict (n + (f x).cost) k (λ j m. tally_from f j m xs) (λ j m. tally_least f j m xs) in
    omega arith

tally_step : (f : Value → ComparisonResult) (k n : ℕ) (xs : List Value) (i : ℕ) (d : Value) → i < length xs
    → tally_from f k n (drop i xs) ≡ tally_by (f (get_or xs i d)).verdict (n + (f (get_or xs i d)).cost) k (λ j m. tally_from f j m (drop (i + 1) xs))
tally_step f k n xs i d h = rw (add-one i, drop-cons xs i d h) refl

tally_short : (budget : ℕ) (t : Tally) → budget < tally_cost t → None ≡ tally_within budget t
tally_short budget t h = grind (arith, common_steps)

tally_enough : (budget : ℕ) (t : Tally) → tally_cost t ≤ budget → Some t ≡ tally_within budget t
tally_enough budget t h = grind (arith, common_steps)

pub tally_none : (f : Value → ComparisonResult) (k n budget : ℕ) (xs : List Value) → budget < n → None ≡ tally_within budget (tally_from f k n xs)
tally_none f k n budget xs h =
    let e : n ≤ tally_cost (tally_from f k n xs) = tally_least f k n xs in tally_short budget (tally_from f k n xs) (omega arith)

tally_above : (f : Value → ComparisonResult) (k n : ℕ) (xs : List Value) (i : ℕ) (d : Value) (all : Tally) → i < length xs
    → all ≡ tally_from f k n (drop i xs) → n + (f (get_or xs i d)).cost ≤ tally_cost all
tally_above f k n xs i d all h g =
    let e : n + (f (get_or xs i d)).cost ≤ tally_cost (tally_by (f (get_or xs i d)).verdict (n + (f (get_or xs i d)).cost) k (λ j m. tally_from f j m (drop (i + 1) xs)))
    = tally_least_by (f (get_or xs i d)).verdict (n + (f (get_or xs i d)).cost) k (λ j m. tally_from f j m (drop (i + 1) xs)) (λ j m. tally_least f j m (drop (i + 1) xs)) in
    let a : tally_cost all ≡ tally_cost (tally_by (f (get_or xs i d)).verdict (n + (f (get_or xs i d)).cost) k (λ j m. tally_from f j m (drop (i + 1) xs)))
    = ap tally_cost (g ∙ tally_step f k n xs i d h) in
    omega arith

pub tally_over : (f : Value → ComparisonResult) (k n budget : ℕ) (xs : List Value) (i : ℕ) (d : Value) (all : Tally) → i < length xs → n ≤ budget
    → all ≡ tally_from f k n (drop i xs) → Exhausted ≡ told (budget - n) (f (get_or xs i d)) → None ≡ tally_within budget all
tally_over f k n budget xs i d all h e g t =
    let o : budget - n < (f (get_or xs i d)).cost = told_over (budget - n) (f (get_or xs i d)) t in
    let a : n + (f (get_or xs i d)).cost ≤ tally_cost all = tally_above f k n xs i d all h g in tally_short budget all (omega arith)

pub tally_counts : (f : Value → ComparisonResult) (k n m budget : ℕ) (xs : List Value) (i : ℕ) (d : Value) (all : Tally) → i < length xs → n ≤ budget
    → all ≡ tally_from f k n (drop i xs) → Yes m ≡ told (budget - n) (f (get_or xs i d))
    → (all ≡ tally_from f (k + 1) (n + m) (drop (i + 1) xs)) × (n + m ≤ budget)
tally_counts f k n m budget xs i d all h e g t =
    let o : ((f (get_or xs i d)).verdict ≡ Holds) × ((f (get_or xs i d)).cost ≡ m) × ((f (get_or xs i d)).cost ≤ budget - n) = told_yes (budget - n) m (f (get_or xs i d)) t in
    (g ∙ (tally_step f k n xs i d h ∙ rw (o.0, o.1, add-one k) refl), omega arith)

pub tally_goes : (f : Value → ComparisonResult) (k n m budget : ℕ) (xs : List Value) (i : ℕ) (d : Value) (all : Tally) → i < length xs → n ≤ budget
    → all ≡ tally_from f k n (drop i xs) → No m ≡ told (budget - n) (f (get_or xs i d))
    → (all ≡ tally_from f k (n + m) (drop (i + 1) xs)) × (n + m ≤ budget)
tally_goes f k n m budget xs i d all h e g t =
    let o : ((f (get_or xs i d)).verdict ≡ Fails) × ((f (get_or xs i d)).cost ≡ m) × ((f (get_or xs i d)).cost ≤ budget - n) = told_no (budget - n) m (f (get_or xs i d)) t in
    (g ∙ (tally_step f k n xs i d h ∙ rw (o.0, o.1) refl), omega arith)

pub tally_sinks : (f : Value → ComparisonResult) (k n m budget : ℕ) (xs : List Value) (i : ℕ) (d : Value) (all : Tally) → i < length xs → n ≤ budget
    → all ≡ tally_from f k n (drop i xs) → TooDeep m ≡ told (budget - n) (f (get_or xs i d)) → Some (tally.TooDeep (n + m)) ≡ tally_within budget all
tally_sinks f k n m budget xs i d all h e g t =
    let o : ((f (get_or xs i d)).verdict ≡ Deep) × ((f (get_or xs i d)).cost ≡ m) × ((f (get_or xs i d)).cost ≤ budget - n) = told_deep (budget - n) m (f (get_or xs i d)) t in
    let a : all ≡ tally.TooDeep (n + m) = g ∙ (tally_step f k n xs i d h ∙ rw (o.0, o.1) refl) in
    rw a (tally_enough budget (tally.TooDeep (n + m)) (omega arith))

pub tally_breaks : (f : Value → ComparisonResult) (k n m budget : ℕ) (xs : List Value) (i : ℕ) (d : Value) (all : Tally) → i < length xs → n ≤ budget
    → all ≡ tally_from f k n (drop i xs) → NotOrdered m ≡ told (budget - n) (f (get_or xs i d)) → Some (tally.TooDeep (n + m)) ≡ tally_within budget all
tally_breaks f k n m budget xs i d all h e g t =
    let o : ((f (get_or xs i d)).verdict ≡ Unordered) × ((f (get_or xs i d)).cost ≡ m) × ((f (get_or xs i d)).cost ≤ budget - n) = told_unordered (budget - n) m (f (get_or xs i d)) t in
    let a : all ≡ tally.TooDeep (n + m) = g ∙ (tally_step f k n xs i d h ∙ rw (o.0, o.1) refl) in
    rw a (tally_enough budget (tally.TooDeep (n + m)) (omega arith))

pub tally_ends : (f : Value → ComparisonResult) (k n budget : ℕ) (all : Tally) → n ≤ budget → all ≡ tally_from f k n [] → Some (tally.Count k n) ≡ tally_within budget all
tally_ends f k n budget all h g = rw g (tally_enough budget (tally.Count k n) h)
