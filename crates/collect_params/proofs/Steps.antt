-- One row more, and one value more.
use Rattle.std.proofs.Common.{◌≡◌, ℕ, zero, suc, ◌+◌, ◌<◌, ◌≤◌, min, Bool, List, [], ◌∷◌, ◌++◌, Option, length, drop, get_or, refl, sym, ap, ◌∙◌, arith}
use Rattle.std.proofs.lemmas.List.{append_assoc, drop_all, drop_more}
use Rattle.collect_params.specs.Given.{id_at, set_given, sets_from}
use Rattle.collect_params.specs.Values.{param_id, param_ids_from, set_id, set_ids_from, value_id, value_ids}
use Rattle.param_rows.specs.Ids.{Id}
use Rattle.param_rows.specs.declared.param.ParamSet.{ParamSet}
use Rattle.py_values.specs.declared.object.Obj.{Obj}
use Rattle.py_values.specs.declared.value.Value.{Value}

-- a walk whose numbers go on with the places
step : {X Y : Type 0} (walk : ℕ → List X → List Y) (one : ℕ → X → Y) (xs : List X) (i : ℕ) (x : X) (done more all : List Y)
    → ((n : ℕ) (y : X) (ys : List X) → walk n (y ∷ ys) ≡ one n y ∷ walk (n + 1) ys)
    → i < length xs → x ≡ get_or xs i x → done ++ walk i (drop i xs) ≡ all → more ≡ done ++ one i x ∷ []
    → more ++ walk (i + 1) (drop (i + 1) xs) ≡ all
step walk one xs i x done more all unfolds l e is new =
    ap (λ ys. ys ++ walk (i + 1) (drop (i + 1) xs)) new
    ∙ (append_assoc done (one i x ∷ []) (walk (i + 1) (drop (i + 1) xs))
    ∙ (ap (λ ys. done ++ ys) (sym (unfolds i x (drop (i + 1) xs)))
    ∙ (ap (λ y. done ++ walk i (y ∷ drop (i + 1) xs)) e
    ∙ (ap (λ ys. done ++ walk i ys) (sym (drop_more xs i x l)) ∙ is))))

pub sets_on : (heap : List Obj) (single : Bool) (ids : List (Option (List ℕ))) (rows : List Value) (i : ℕ) (d : Value) (done more all : List (ParamSet Value))
    → i < length rows → done ++ sets_from heap single ids i (drop i rows) ≡ all → more ≡ done ++ set_given heap single (id_at ids i) (get_or rows i d) ∷ []
    → more ++ sets_from heap single ids (i + 1) (drop (i + 1) rows) ≡ all
sets_on heap single ids rows i d done more all l is new =
    let v = get_or rows i d in
    ap (λ ys. ys ++ sets_from heap single ids (i + 1) (drop (i + 1) rows)) new
    ∙ (append_assoc done (set_given heap single (id_at ids i) v ∷ []) (sets_from heap single ids (i + 1) (drop (i + 1) rows))
    ∙ (ap (λ ys. done ++ sets_from heap single ids i ys) (sym (drop_more rows i d l)) ∙ is))

pub set_ids_on : (heap : List Obj) (names : List Id) (sets : List (ParamSet Value)) (i : ℕ) (set : ParamSet Value) (done more all : List Id)
    → i < length sets → set ≡ get_or sets i set → done ++ set_ids_from heap names i (drop i sets) ≡ all → more ≡ done ++ set_id heap names i set ∷ []
    → more ++ set_ids_from heap names (i + 1) (drop (i + 1) sets) ≡ all
set_ids_on heap names sets i set done more all l e is new = step (set_ids_from heap names) (set_id heap names) sets i set done more all (λ n y ys. refl) l e is new

pub param_ids_on : (heap : List Obj) (name : Id) (sets : List (ParamSet Value)) (i : ℕ) (set : ParamSet Value) (done more all : List Id)
    → i < length sets → set ≡ get_or sets i set → done ++ param_ids_from heap name i (drop i sets) ≡ all → more ≡ done ++ param_id heap name i set ∷ []
    → more ++ param_ids_from heap name (i + 1) (drop (i + 1) sets) ≡ all
param_ids_on heap name sets i set done more all l e is new = step (param_ids_from heap name) (param_id heap name) sets i set done more all (λ n y ys. refl) l e is new

-- two lists side by side
pub values_on : (heap : List Obj) (number : ℕ) (names : List Id) (vs : List Value) (i : ℕ) (name : Id) (d : Value) (done more all : List Id)
    → i < length names → i < length vs → name ≡ get_or names i name
    → done ++ value_ids heap number (drop i names) (drop i vs) ≡ all → more ≡ done ++ value_id heap name number (get_or vs i d) ∷ []
    → more ++ value_ids heap number (drop (i + 1) names) (drop (i + 1) vs) ≡ all
values_on heap number names vs i name d done more all l m e is new =
    let v = get_or vs i d in
    ap (λ ys. ys ++ value_ids heap number (drop (i + 1) names) (drop (i + 1) vs)) new
    ∙ (append_assoc done (value_id heap name number v ∷ []) (value_ids heap number (drop (i + 1) names) (drop (i + 1) vs))
    ∙ (ap (λ y. done ++ value_ids heap number (y ∷ drop (i + 1) names) (v ∷ drop (i + 1) vs)) e
    ∙ (ap (λ ys. done ++ value_ids heap number ys (v ∷ drop (i + 1) vs)) (sym (drop_more names i name l))
    ∙ (ap (λ ys. done ++ value_ids heap number (drop i names) ys) (sym (drop_more vs i d m)) ∙ is))))

pub none_left : (heap : List Obj) (number : ℕ) (names : List Id) (vs : List Value) (i : ℕ) → min (length names) (length vs) ≤ i → value_ids heap number (drop i names) (drop i vs) ≡ []
none_left heap number [] vs i le = ap (λ ns. value_ids heap number ns (drop i vs)) (drop_all i [] (omega arith))
none_left heap number (name ∷ names) [] zero le = refl
none_left heap number (name ∷ names) (v ∷ vs) zero le = absurd (omega arith)
none_left heap number (name ∷ names) [] (suc i) le = by (drop i names)
  where
    by : (ns : List Id) → value_ids heap number ns [] ≡ []
    by [] = refl
    by (n ∷ ns) = refl
none_left heap number (name ∷ names) (v ∷ vs) (suc i) le = none_left heap number names vs i (omega arith)
