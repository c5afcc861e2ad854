-- Sums and numbers one element behind another.
use Rattle.std.proofs.Common.{ℕ, ◌+◌, ◌^◌, ◌<◌, ◌≤◌, Bool, true, false, List, [], ◌∷◌, ◌≡◌, ◌∙◌, refl, sym, ap, arith, length, drop, get_or, add-one, drop-cons, Some, None}
use Rattle.std.proofs.lemmas.Grind.{common_steps}
use Rattle.std.proofs.lemmas.List.{at_drop_all}
use Rattle.std.specs.Prelude.{nat_lt, if◌then◌else◌}
use Rattle.text_methods.specs.call_products.Products.{plain}
use Rattle.text_methods.specs.call_products.declared.product.Product.{Product}
use Rattle.number_calls.specs.Sums.{sum_from, sum_by, plus_of, no_number, too_large}
use Rattle.number_calls.specs.declared.sums.Plus.{Plus}
use Rattle.number_calls.specs.declared.sums.Plus.TheVariants.{Sum, NoNumber, TooLarge}
use Rattle.number_calls.specs.Texts.{decimal, with_digit, bounded}
use Rattle.py_values.specs.Numbers.{int_value}
use Rattle.py_values.specs.declared.end.Effect.TheVariants.{Give}
use Rattle.py_values.specs.declared.object.Obj.{Obj}
use Rattle.py_values.specs.declared.value.Value.{Value}

sum_step : (heap : List Obj) (total : Value) (vs : List Value) (i : ℕ) (d : Value) → i < length vs
    → sum_from heap total i (drop i vs) ≡ sum_by heap (get_or vs i d) (i + 1) (plus_of (int_value total) (int_value (get_or vs i d)))
    (λ t. sum_from heap t (i + 1) (drop (i + 1) vs))
sum_step heap total vs i d h = rw (add-one i, drop-cons vs i d h) refl

-- a turn of the loop over elements, by what comes of the element
sum_turn : (heap : List Obj) (total : Value) (p : Plus) (vs : List Value) (i : ℕ) (d : Value) (all : Product) → i < length vs
    → p ≡ plus_of (int_value total) (int_value (get_or vs i d)) → all ≡ sum_from heap total i (drop i vs)
    → all ≡ sum_by heap (get_or vs i d) (i + 1) p (λ t. sum_from heap t (i + 1) (drop (i + 1) vs))
sum_turn heap total p vs i d all h e f = rw e (f ∙ sum_step heap total vs i d h)

pub sum_goes : (heap : List Obj) (total t : Value) (vs : List Value) (i : ℕ) (d : Value) (all : Product) → i < length vs
    → Sum t ≡ plus_of (int_value total) (int_value (get_or vs i d)) → all ≡ sum_from heap total i (drop i vs)
    → all ≡ sum_from heap t (i + 1) (drop (i + 1) vs)
sum_goes heap total t vs i d all h e f = sum_turn heap total (Sum t) vs i d all h e f

pub sum_stops : (heap : List Obj) (total : Value) (vs : List Value) (i : ℕ) (d : Value) (all : Product) → i < length vs
    → NoNumber ≡ plus_of (int_value total) (int_value (get_or vs i d)) → all ≡ sum_from heap total i (drop i vs)
    → all ≡ no_number heap (get_or vs i d) (i + 1)
sum_stops heap total vs i d all h e f = sum_turn heap total NoNumber vs i d all h e f

pub sum_leaves : (heap : List Obj) (total : Value) (vs : List Value) (i : ℕ) (d : Value) (all : Product) → i < length vs
    → TooLarge ≡ plus_of (int_value total) (int_value (get_or vs i d)) → all ≡ sum_from heap total i (drop i vs) → all ≡ too_large (i + 1)
sum_leaves heap total vs i d all h e f = sum_turn heap total TooLarge vs i d all h e f

pub sum_ends : (heap : List Obj) (total : Value) (vs : List Value) (i : ℕ) (all : Product) → length vs ≤ i → i ≤ length vs
    → all ≡ sum_from heap total i (drop i vs) → plain (Give total (length vs)) ≡ all
sum_ends heap total vs i all h g f =
    let k : i ≡ length vs = omega arith in
    let a : all ≡ sum_from heap total (length vs) (drop (length vs) vs) = rw k at f in
    sym (a ∙ at_drop_all (sum_from heap total (length vs)) vs (length vs) (omega arith))

pub decimal_step : (n : ℕ) (cs : List ℕ) (i : ℕ) (d : ℕ) → i < length cs → decimal n (drop i cs) ≡ decimal (with_digit n (get_or cs i d)) (drop (i + 1) cs)
decimal_step n cs i d h = rw (add-one i, drop-cons cs i d h) refl

pub decimal_grows : (n : ℕ) (cs : List ℕ) → n ≤ decimal n cs
decimal_grows n [] = omega arith
decimal_grows n (c ∷ cs) = let h : with_digit n c ≤ decimal (with_digit n c) cs = decimal_grows (with_digit n c) cs in omega arith

above : (a b : ℕ) → nat_lt a b ≡ true → a < b
above a b h = grind (arith, common_steps)

upto : (a b : ℕ) → nat_lt a b ≡ false → b ≤ a
upto a b h = grind (arith, common_steps)

is_above : (a b : ℕ) → a < b → nat_lt a b ≡ true
is_above a b h = grind (arith, common_steps)

is_upto : (a b : ℕ) → b ≤ a → nat_lt a b ≡ false
is_upto a b h = grind (arith, common_steps)

kept_by : (t : Bool) (m n : ℕ) → Some m ≡ (if t then None else Some n) → (t ≡ false) × (m ≡ n)
kept_by true m n e = absurd (cc)
kept_by false m n e = (refl, cc)

-- a number that isn't too large, and one that is
pub bounded_kept : (m n : ℕ) → Some m ≡ bounded n → (m ≡ n) × (n ≤ 2 ^ 127)
bounded_kept m n e =
    let k : (nat_lt (2 ^ 127) n ≡ false) × (m ≡ n) = kept_by (nat_lt (2 ^ 127) n) m n e in (k.1, upto (2 ^ 127) n k.0)

gone_by : (t : Bool) (n : ℕ) → None ≡ (if t then None else Some n) → t ≡ true
gone_by true n e = refl
gone_by false n e = absurd (cc)

pub bounded_gone : (n : ℕ) → None ≡ bounded n → 2 ^ 127 < n
bounded_gone n e = above (2 ^ 127) n (gone_by (nat_lt (2 ^ 127) n) n e)

pub bounded_none : (n : ℕ) → 2 ^ 127 < n → None ≡ bounded n
bounded_none n h = rw (is_above (2 ^ 127) n h) refl

pub bounded_some : (n : ℕ) → n ≤ 2 ^ 127 → Some n ≡ bounded n
bounded_some n h = rw (is_upto (2 ^ 127) n h) refl

-- a turn of the loop over digits
pub decimal_goes : (n m : ℕ) (cs : List ℕ) (i : ℕ) (d : ℕ) (all : ℕ) → i < length cs → Some m ≡ bounded (with_digit n (get_or cs i d))
    → all ≡ decimal n (drop i cs) → (all ≡ decimal m (drop (i + 1) cs)) × (m ≤ 2 ^ 127)
decimal_goes n m cs i d all h e f =
    let k : (m ≡ with_digit n (get_or cs i d)) × (with_digit n (get_or cs i d) ≤ 2 ^ 127) = bounded_kept m (with_digit n (get_or cs i d)) e in
    (f ∙ (decimal_step n cs i d h ∙ ap (λ (x : ℕ). decimal x (drop (i + 1) cs)) (sym k.0)), rw k.0 k.1)

pub decimal_stops : (n : ℕ) (cs : List ℕ) (i : ℕ) (d : ℕ) (all : ℕ) → i < length cs → None ≡ bounded (with_digit n (get_or cs i d))
    → all ≡ decimal n (drop i cs) → None ≡ bounded all
decimal_stops n cs i d all h e f =
    let k : 2 ^ 127 < with_digit n (get_or cs i d) = bounded_gone (with_digit n (get_or cs i d)) e in
    let g : with_digit n (get_or cs i d) ≤ decimal (with_digit n (get_or cs i d)) (drop (i + 1) cs) = decimal_grows (with_digit n (get_or cs i d)) (drop (i + 1) cs) in
    let a : all ≡ decimal (with_digit n (get_or cs i d)) (drop (i + 1) cs) = f ∙ decimal_step n cs i d h in
    bounded_none all (omega arith)
