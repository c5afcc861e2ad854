-- Turns of the loops over the pairs of dicts.
use Rattle.std.proofs.Common.{ℕ, zero, suc, ◌+◌, ◌-◌, Bool, true, false, List, [], ◌∷◌, ◌++◌, ◌≡◌, ◌∙◌, refl, sym, ap, arith, length, take, drop, add-one, slice_get, Some}
use Rattle.std.specs.Prelude.{option_map, if◌then◌else◌}
use Rattle.dict_methods.specs.Copies.{keys_steps, stored, store_all, has_room, filled, FillResult, Full}
use Rattle.dict_methods.specs.Views.{values_of, value_in, pair_object, pair_objects, object_in}
use Rattle.py_values.specs.declared.dict.Pair.{Pair}
use Rattle.py_values.specs.declared.key.Atom.{Atom}
use Rattle.py_values.specs.declared.object.Obj.{Obj}
use Rattle.py_values.specs.declared.value.Value.{Value}

-- what stands from a place on
from_entry : {A : Type 0} (xs : List A) (i : ℕ) (x : A) → Some x ≡ slice_get xs i → drop i xs ≡ x ∷ drop (i + 1) xs
from_entry [] i x e = absurd (cc)
from_entry (y ∷ ys) zero x e = let k : x ≡ y = cc in ap (λ z. z ∷ ys) (sym k)
from_entry (y ∷ ys) (suc i) x e = rw (add-one (suc i)) (rw (add-one i) at (from_entry ys i x e))

pub keys_go : (es : List (List Atom × Pair)) (i : ℕ) (e : List Atom × Pair) (n all : ℕ) → Some e ≡ slice_get es i → all ≡ n + keys_steps (drop i es)
    → all ≡ (n + (length e.0 - 1)) + keys_steps (drop (i + 1) es)
keys_go es i e n all h f =
    let k : keys_steps (drop i es) ≡ (length e.0 - 1) + keys_steps (drop (i + 1) es) = ap keys_steps (from_entry es i e h) in omega arith

store_goes : (ds : List (List Atom × Pair)) (i : ℕ) (d : List Atom × Pair) (es all : List (List Atom × Pair)) → Some d ≡ slice_get ds i
    → all ≡ store_all es (drop i ds) → all ≡ store_all (stored es d) (drop (i + 1) ds)
store_goes ds i d es all h f = f ∙ ap (store_all es) (from_entry ds i d h)

pub store_more : (ds : List (List Atom × Pair)) (i : ℕ) (d : List Atom × Pair) (es es' all : List (List Atom × Pair)) → Some d ≡ slice_get ds i
    → es' ≡ stored es d → all ≡ store_all es (drop i ds) → all ≡ store_all es' (drop (i + 1) ds)
store_more ds i d es es' all h e f = rw e (store_goes ds i d es all h f)

by_room : (b : Bool) (x y : FillResult) → b ≡ true → (if b then x else y) ≡ x
by_room true x y e = refl
by_room false x y e = absurd (cc)

by_none : (b : Bool) (x y : FillResult) → b ≡ false → (if b then x else y) ≡ y
by_none true x y e = absurd (cc)
by_none false x y e = refl

fill_goes : (ds : List (List Atom × Pair)) (i : ℕ) (d : List Atom × Pair) (es : List (List Atom × Pair)) (n : ℕ) (all : FillResult) → Some d ≡ slice_get ds i
    → has_room es d.0 ≡ true → all ≡ filled es n (drop i ds) → all ≡ filled (stored es d) (n + (length d.0 - 1)) (drop (i + 1) ds)
fill_goes ds i d es n all h r f =
    f ∙ (ap (filled es n) (from_entry ds i d h)
    ∙ by_room (has_room es d.0) (filled (stored es d) (n + (length d.0 - 1)) (drop (i + 1) ds)) (Full (n + (length d.0 - 1))) r)

fill_stops : (ds : List (List Atom × Pair)) (i : ℕ) (d : List Atom × Pair) (es : List (List Atom × Pair)) (n : ℕ) (all : FillResult) → Some d ≡ slice_get ds i
    → has_room es d.0 ≡ false → all ≡ filled es n (drop i ds) → Full (n + (length d.0 - 1)) ≡ all
fill_stops ds i d es n all h r f =
    sym (f ∙ (ap (filled es n) (from_entry ds i d h)
    ∙ by_none (has_room es d.0) (filled (stored es d) (n + (length d.0 - 1)) (drop (i + 1) ds)) (Full (n + (length d.0 - 1))) r))

pub fill_more : (ds : List (List Atom × Pair)) (i : ℕ) (d : List Atom × Pair) (es es' : List (List Atom × Pair)) (n n' : ℕ) (all : FillResult) → Some d ≡ slice_get ds i
    → has_room es d.0 ≡ true → es' ≡ stored es d → n' ≡ n + (length d.0 - 1) → all ≡ filled es n (drop i ds) → all ≡ filled es' n' (drop (i + 1) ds)
fill_more ds i d es es' n n' all h r e g f = rw (e, g) (fill_goes ds i d es n all h r f)

pub fill_full : (ds : List (List Atom × Pair)) (i : ℕ) (d : List Atom × Pair) (es : List (List Atom × Pair)) (n n' : ℕ) (all : FillResult) → Some d ≡ slice_get ds i
    → has_room es d.0 ≡ false → n' ≡ n + (length d.0 - 1) → all ≡ filled es n (drop i ds) → Full n' ≡ all
fill_full ds i d es n n' all h r g f = rw g (fill_stops ds i d es n all h r f)

-- turns of the loops over values and pairs
pub values_turn : (es : List (List Atom × Pair)) (i : ℕ) → values_of (take (i + 1) es) ≡ values_of (take i es) ++ value_in (option_map (λ e. e.1) (slice_get es i))
values_turn [] zero = refl
values_turn [] (suc i) = rw (add-one (suc i)) refl
values_turn (e ∷ es) zero = refl
values_turn (e ∷ es) (suc i) = rw (add-one (suc i)) (ap (λ (l : List Value). e.1.value ∷ l) (rw (add-one i) at (values_turn es i)))

pub objects_turn : (es : List (List Atom × Pair)) (i : ℕ) → pair_objects (take (i + 1) es) ≡ pair_objects (take i es) ++ object_in (option_map (λ e. e.1) (slice_get es i))
objects_turn [] zero = refl
objects_turn [] (suc i) = rw (add-one (suc i)) refl
objects_turn (e ∷ es) zero = refl
objects_turn (e ∷ es) (suc i) = rw (add-one (suc i)) (ap (λ (l : List Obj). pair_object e.1 ∷ l) (rw (add-one i) at (objects_turn es i)))
