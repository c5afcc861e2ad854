-- Places, keys and numbers one behind another.
use Rattle.std.proofs.Common.{ℕ, zero, suc, ◌+◌, ◌-◌, ◌<◌, List, [], ◌∷◌, ◌++◌, ◌≡◌, ◌∙◌, refl, sym, ap, arith, take, slice_get, append_assoc, add-one, Option, Some, None}
use Rattle.std.specs.Prelude.{option_map}
use Rattle.call_products.specs.Products.{refs_from}
use Rattle.call_products.specs.Elements.{keys_of, key_in, values_from, number_value, value_before}
use Rattle.py_operands.specs.Numbers.{fitting}
use Rattle.py_operands.specs.Ranges.{nth_of}
use Rattle.py_values.specs.Ends.{id_at}
use Rattle.py_values.specs.declared.dict.Pair.{Pair}
use Rattle.py_values.specs.declared.key.Atom.{Atom}
use Rattle.py_values.specs.declared.range.RangeObj.{RangeObj}
use Rattle.py_values.specs.declared.value.Value.{Value}
use Rattle.py_values.specs.declared.value.Value.TheVariants.{Ref}

-- a turn of the loop over places
pub refs_turn : (values all : List Value) (from n i : ℕ) → i < n → values ++ refs_from (from + i) (n - i) ≡ all
    → (values ++ Ref (id_at (from + i)) ∷ []) ++ refs_from (from + (i + 1)) (n - (i + 1)) ≡ all
refs_turn values all from n i h e =
    let k : n - i ≡ suc (n - (i + 1)) = omega arith in
    let l : from + (i + 1) ≡ suc (from + i) = omega arith in
    let f : values ++ refs_from (from + i) (suc (n - (i + 1))) ≡ all = rw k at e in
    rw (l, append_assoc) f

-- a turn of the loop over the keys of a dict
pub keys_turn : (es : List (List Atom × Pair)) (i : ℕ) → keys_of (take (i + 1) es) ≡ keys_of (take i es) ++ key_in (option_map (λ e. e.1) (slice_get es i))
keys_turn [] zero = refl
keys_turn [] (suc i) = rw (add-one (suc i)) refl
keys_turn (e ∷ es) zero = refl
keys_turn (e ∷ es) (suc i) = rw (add-one (suc i)) (ap (λ (l : List Value). e.1.key ∷ l) (rw (add-one i) at (keys_turn es i)))

-- values before others
abbrev pub values_before : List Value → Option (List Value) → Option (List Value)
values_before vs (Some ws) = Some (vs ++ ws)
values_before vs None = None

before_value : (vs : List Value) (v : Value) (o : Option (List Value)) → values_before vs (value_before (Some v) o) ≡ values_before (vs ++ v ∷ []) o
before_value vs v (Some ws) = simp append_assoc
before_value vs v None = refl

step : (r : RangeObj) (n i : ℕ) → i < n → values_from r i (n - i) ≡ value_before (number_value (fitting (nth_of r i))) (values_from r (i + 1) (n - (i + 1)))
step r n i h =
    let k : n - i ≡ suc (n - (i + 1)) = omega arith in
    rw (k, add-one i) refl

pub numbers_turn : (r : RangeObj) (vs : List Value) (all : Option (List Value)) (n i : ℕ) (v : Value) → i < n → Some v ≡ number_value (fitting (nth_of r i))
    → all ≡ values_before vs (values_from r i (n - i)) → all ≡ values_before (vs ++ v ∷ []) (values_from r (i + 1) (n - (i + 1)))
numbers_turn r vs all n i v h f e =
    let g : all ≡ values_before vs (value_before (number_value (fitting (nth_of r i))) (values_from r (i + 1) (n - (i + 1)))) = rw (step r n i h) at e in
    let k : all ≡ values_before vs (value_before (Some v) (values_from r (i + 1) (n - (i + 1)))) = rw (← f) at g in
    k ∙ before_value vs v (values_from r (i + 1) (n - (i + 1)))

pub numbers_stop : (r : RangeObj) (vs : List Value) (all : Option (List Value)) (n i : ℕ) → i < n → None ≡ number_value (fitting (nth_of r i))
    → all ≡ values_before vs (values_from r i (n - i)) → None ≡ all
numbers_stop r vs all n i h f e =
    let g : all ≡ values_before vs (value_before (number_value (fitting (nth_of r i))) (values_from r (i + 1) (n - (i + 1)))) = rw (step r n i h) at e in
    let k : all ≡ values_before vs (value_before None (values_from r (i + 1) (n - (i + 1)))) = rw (← f) at g in
    sym k
