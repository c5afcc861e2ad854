-- One list of values more before a product, and its size.
use Rattle.std.proofs.Common.{◌≡◌, ℕ, ◌+◌, ◌*◌, ◌<◌, ◌≤◌, Bool, true, false, List, [], ◌∷◌, ◌++◌, length, suc, zero, min, map, refl, ap, sym, ◌∙◌, arith, inl, inr, get_or, drop, take}
use Rattle.std.specs.Prelude.{All}
use Rattle.std.specs.List.{flat_map}
use Rattle.std.proofs.Math.Nat.{mul_assoc, mul-le-mul_left}
use Rattle.std.proofs.lemmas.Bool.{cases_lt}
use Rattle.std.proofs.lemmas.List.{append-nil, append_assoc, map-append, length-append, length-map, drop_more, take_more, take_all}
use Rattle.std.proofs.lemmas.List.Elements.{All-nil, All-cons, All-weaker}
use Rattle.std.specs.List.{enumerate_from}
use Rattle.std.specs.declared.alloc.Global.{Global}
use Rattle.std.specs.declared.vec.Vec.{Vec}
use Rattle.std.proofs.lemmas.List.FromFn.{length-enumerate_from, get_or-enumerate_from}
use Rattle.std.proofs.lemmas.List.Concat.{flat_map-append}
use Rattle.param_rows.specs.Ids.{Id}
use Rattle.param_rows.specs.Rows.{ParameterSet, chosen_row, product, param_choice, fixture_choices, set_choice, mark_choices}
use Rattle.param_rows.specs.declared.param.ParamMark.{ParamMark}
use Rattle.param_rows.specs.Steps.{with_choice, rows_in}
use Rattle.param_rows.specs.declared.param.ParamRow.{ParamRow}

map-flat_map : {A B C : Type 0} (f : B → C) (g : A → List B) (xs : List A) → map f (flat_map g xs) ≡ flat_map (λ x. map f (g x)) xs
map-flat_map f g [] = refl
map-flat_map f g (x ∷ xs) = map-append f (g x) (flat_map g xs) ∙ ap (λ ys. map f (g x) ++ ys) (map-flat_map f g xs)

row_of-cons : {V : Type 0} (named : Bool) (choice : ParameterSet V) (choices : List (ParameterSet V)) → chosen_row named (choice ∷ choices) ≡ with_choice named choice (chosen_row named choices)
row_of-cons true choice choices = refl
row_of-cons false choice choices = refl

with_each : {V : Type 0} (named : Bool) (choice : ParameterSet V) (chosen : List (List (ParameterSet V))) → map (chosen_row named) (map (λ choices. choice ∷ choices) chosen) ≡ map (with_choice named choice) (map (chosen_row named) chosen)
with_each named choice [] = refl
with_each named choice (choices ∷ chosen) =
    ap (λ row. row ∷ map (chosen_row named) (map (λ cs. choice ∷ cs) chosen)) (row_of-cons named choice choices)
    ∙ ap (λ rows. with_choice named choice (chosen_row named choices) ∷ rows) (with_each named choice chosen)

with_all : {V : Type 0} (named : Bool) (xs : List (ParameterSet V)) (chosen : List (List (ParameterSet V))) → flat_map (λ choice. map (chosen_row named) (map (λ choices. choice ∷ choices) chosen)) xs ≡ flat_map (λ choice. map (with_choice named choice) (map (chosen_row named) chosen)) xs
with_all named [] chosen = refl
with_all named (choice ∷ xs) chosen =
    ap (λ rows. rows ++ flat_map (λ x. map (chosen_row named) (map (λ choices. x ∷ choices) chosen)) xs) (with_each named choice chosen)
    ∙ ap (λ rows. map (with_choice named choice) (map (chosen_row named) chosen) ++ rows) (with_all named xs chosen)

pub rows_in-cons : {V : Type 0} (named : Bool) (xs : List (ParameterSet V)) (lists : List (List (ParameterSet V))) → rows_in named (xs ∷ lists) ≡ flat_map (λ choice. map (with_choice named choice) (rows_in named lists)) xs
rows_in-cons named xs lists = map-flat_map (chosen_row named) (λ choice. map (λ choices. choice ∷ choices) (product lists)) xs ∙ with_all named xs (product lists)

-- the rows with one list of values more
pub rows_in_more : {A V : Type 0} (named : Bool) (f : A → List (ParameterSet V)) (xs : List A) (i j : ℕ) (x : A) (behind : List (List (ParameterSet V))) (old new : List (ParamRow V)) → j < length xs → i ≡ j + 1 → x ≡ get_or xs j x → old ≡ rows_in named (map f (drop i xs) ++ behind) → new ≡ flat_map (λ choice. map (with_choice named choice) old) (f x) → new ≡ rows_in named (map f (drop j xs) ++ behind)
rows_in_more named f xs i j x behind old new lt next at so_far step =
    let left : drop j xs ≡ x ∷ drop i xs = drop_more xs j x lt ∙ (rw (next, ← at) refl) in
    step ∙ ap (λ rows. flat_map (λ choice. map (with_choice named choice) rows) (f x)) so_far
    ∙ sym (rows_in-cons named (f x) (map f (drop i xs) ++ behind))
    ∙ sym (ap (λ ys. rows_in named (map f ys ++ behind)) left)

length_each : {A : Type 0} (xs : List A) (chosen : List (List A)) → length (flat_map (λ x. map (λ ys. x ∷ ys) chosen) xs) ≡ length xs * length chosen
length_each [] chosen = omega arith
length_each (x ∷ xs) chosen = omega (arith, length-append (map (λ ys. x ∷ ys) chosen) (flat_map (λ x. map (λ ys. x ∷ ys) chosen) xs), length-map chosen (λ ys. x ∷ ys), length_each xs chosen)

pub length-product : {A : Type 0} (xs : List A) (lists : List (List A)) → length (product (xs ∷ lists)) ≡ length xs * length (product lists)
length-product xs lists = length_each xs (product lists)

pub length-product-append : {A : Type 0} (one other : List (List A)) → length (product (one ++ other)) ≡ length (product one) * length (product other)
length-product-append [] other = omega arith
length-product-append (xs ∷ one) other =
    length-product xs (one ++ other) ∙ ap (λ n. length xs * n) (length-product-append one other)
    ∙ sym (mul_assoc (length xs) (length (product one)) (length (product other))) ∙ sym (ap (λ n. n * length (product other)) (length-product xs one))

capped_above : (a r c : ℕ) → c < a → min (c * r) c ≡ min (a * r) c
capped_above a zero c lt = omega arith
capped_above a (suc r) c lt = omega (arith, mul-le-mul_left 1 lt)

-- a factor past the limit may stand at the limit
pub capped : (a r c : ℕ) → min (min a c * r) c ≡ min (a * r) c
capped a r c = elim (cases_lt c a) [
  | inl lt ↦ let e : min a c ≡ c = omega arith in rw e (capped_above a r c lt)
  | inr le ↦ let e : min a c ≡ a = omega arith in rw e refl
]

-- one list of values more
pub times_more : {A V : Type 0} (f : A → List (ParameterSet V)) (xs : List A) (i : ℕ) (x : A) (total more all : ℕ) → i < length xs → x ≡ get_or xs i x → more ≡ min (total * length (f x)) 65537 → min (total * length (product (map f (drop i xs)))) 65537 ≡ all → min (more * length (product (map f (drop (i + 1) xs)))) 65537 ≡ all
times_more f xs i x total more all lt at is so_far =
    let rest : ℕ = length (product (map f (drop (i + 1) xs))) in
    let left : drop i xs ≡ x ∷ drop (i + 1) xs = drop_more xs i x lt ∙ (rw (← at) refl) in
    let size : length (product (map f (drop i xs))) ≡ length (f x) * rest = ap (λ ys. length (product (map f ys))) left ∙ length-product (f x) (map f (drop (i + 1) xs)) in
    ap (λ n. min (n * rest) 65537) is ∙ capped (total * length (f x)) rest 65537
    ∙ ap (λ n. min n 65537) (mul_assoc total (length (f x)) rest ∙ ap (λ n. total * n) (sym size)) ∙ so_far

factor_below : (a b : ℕ) → 0 < a * b → (a ≤ a * b) × (b ≤ a * b)
factor_below zero b h = absurd (omega arith)
factor_below (suc a) zero h = absurd (omega arith)
factor_below (suc a) (suc b) h = (omega arith, omega arith)

-- no list is longer than the product, where that isn't empty
pub product_bounds : {A : Type 0} (lists : List (List A)) → 0 < length (product lists) → All (λ xs. length xs ≤ length (product lists)) lists
product_bounds [] h = All-nil (λ xs. length xs ≤ 1)
product_bounds (xs ∷ lists) h =
    let size = length-product xs lists in
    let below = factor_below (length xs) (length (product lists)) (omega (arith, size)) in
    All-cons (λ ys. length ys ≤ length (product (xs ∷ lists))) xs lists (omega (arith, size, below.0))
    (All-weaker (λ ys. length ys ≤ length (product lists)) (λ ys. length ys ≤ length (product (xs ∷ lists))) (λ ys le. omega (arith, size, below.1, le)) lists
    (product_bounds lists (positive (length xs) (length (product lists)) (omega (arith, size)))))
  where
    positive : (a b : ℕ) → 0 < a * b → 0 < b
    positive a zero h = absurd (omega arith)
    positive a (suc b) h = omega arith

pub length-fixture_choices : (V : Type 0) (fixture : ℕ × Vec Id Global) → length (fixture_choices {V = V} fixture) ≡ length fixture.1.items
length-fixture_choices V fixture = length-map (enumerate_from 0 fixture.1.items) (param_choice {V = V} fixture.0) ∙ length-enumerate_from 0 fixture.1.items

pub length-mark_choices : {V : Type 0} (mark : ParamMark V) → length (mark_choices mark) ≡ length mark.sets
length-mark_choices mark = length-map mark.sets (set_choice mark.names)

read_more : {A : Type 0} (xs : List A) (i : ℕ) (x : A) → i < length xs → x ≡ get_or xs i x → take (i + 1) xs ≡ take i xs ++ x ∷ []
read_more xs i x lt at = take_more xs i x lt ∙ ap (λ y. take i xs ++ y ∷ []) (sym at)

-- what a loop pushes for each element
pub pushed_more : {A B : Type 0} (f : A → B) (xs : List A) (i : ℕ) (x : A) (start old new : List B) → i < length xs → x ≡ get_or xs i x → old ≡ start ++ map f (take i xs) → new ≡ old ++ f x ∷ [] → new ≡ start ++ map f (take (i + 1) xs)
pushed_more f xs i x start old new lt at so_far is =
    is ∙ ap (λ ys. ys ++ f x ∷ []) so_far ∙ append_assoc start (map f (take i xs)) (f x ∷ [])
    ∙ ap (λ ys. start ++ ys) (sym (map-append f (take i xs) (x ∷ [])) ∙ ap (λ ys. map f ys) (sym (read_more xs i x lt at)))

-- what a loop appends for each element
pub each_more : {A V : Type 0} (g : ParameterSet V → List (ParamRow V)) (f : A → ParameterSet V) (xs : List A) (i : ℕ) (x : A) (old new : List (ParamRow V)) → i < length xs → x ≡ get_or xs i x → old ≡ flat_map g (map f (take i xs)) → new ≡ old ++ g (f x) → new ≡ flat_map g (map f (take (i + 1) xs))
each_more g f xs i x old new lt at so_far is =
    is ∙ ap (λ ys. ys ++ g (f x)) so_far
    ∙ sym (ap (λ ys. flat_map g (map f ys)) (read_more xs i x lt at)
    ∙ ap (λ ys. flat_map g ys) (map-append f (take i xs) (x ∷ []))
    ∙ flat_map-append g (map f (take i xs)) (f x ∷ [])
    ∙ ap (λ ys. flat_map g (map f (take i xs)) ++ ys) (append-nil (g (f x))))

pub each_all : {A V : Type 0} (g : ParameterSet V → List (ParamRow V)) (f : A → ParameterSet V) (xs : List A) (i : ℕ) (all : List (ParamRow V)) → length xs ≤ i → all ≡ flat_map g (map f (take i xs)) → all ≡ flat_map g (map f xs)
each_all g f xs i all le so_far = so_far ∙ ap (λ ys. flat_map g (map f ys)) (take_all i xs le)

-- a numbered element
pub numbered_at : (ids : List Id) (i : ℕ) (id : Id) → i < length ids → id ≡ get_or ids i id → ◌≡◌ {A = ℕ × Id} (i, id) (get_or (enumerate_from 0 ids) i (i, id))
numbered_at ids i id lt at = sym (get_or-enumerate_from 0 ids i (i, id) lt ∙ same (0 + i) i (get_or ids i id) id (omega arith) (sym at))
  where
    same : (a b : ℕ) (x y : Id) → a ≡ b → x ≡ y → ◌≡◌ {A = ℕ × Id} (a, x) (b, y)
    same a b x y e f = rw (e, f) refl

pub rows_in_last : {A V : Type 0} (named : Bool) (f : A → List (ParameterSet V)) (xs : List A) (i j : ℕ) (x : A) (old new : List (ParamRow V)) → j < length xs → i ≡ j + 1 → x ≡ get_or xs j x → old ≡ rows_in named (map f (drop i xs)) → new ≡ flat_map (λ choice. map (with_choice named choice) old) (f x) → new ≡ rows_in named (map f (drop j xs))
rows_in_last named f xs i j x old new lt next at so_far step =
    rows_in_more named f xs i j x [] old new lt next at (so_far ∙ ap (λ ys. rows_in named ys) (sym (append-nil (map f (drop i xs))))) step
    ∙ ap (λ ys. rows_in named ys) (append-nil (map f (drop j xs)))
