-- One element more.
use Rattle.std.proofs.Common.{◌≡◌, ℕ, zero, suc, ◌+◌, ◌<◌, ◌≤◌, min, List, [], ◌∷◌, ◌++◌, length, drop, get_or, refl, sym, ap, ◌∙◌, arith}
use Rattle.std.specs.List.{flat_map}
use Rattle.std.proofs.lemmas.List.{append_assoc, drop_all, drop_more}
use Rattle.fixture_definitions.specs.collect_params.param_rows.Ids.{Id}
use Rattle.fixture_definitions.specs.collect_params.param_rows.declared.param.ParamSet.{ParamSet}
use Rattle.py_values.specs.declared.value.Value.{Value}
use Rattle.collect_rows.specs.Rows.{with_id, with_ids}

pub flat_at : {X Y : Type 0} (f : X → List Y) (xs : List X) (i : ℕ) (d : X) (done more all : List Y)
    → i < length xs → done ++ flat_map f (drop i xs) ≡ all → more ≡ done ++ f (get_or xs i d) → more ++ flat_map f (drop (i + 1) xs) ≡ all
flat_at f xs i d done more all l is new =
    ap (λ ys. ys ++ flat_map f (drop (i + 1) xs)) new
    ∙ (append_assoc done (f (get_or xs i d)) (flat_map f (drop (i + 1) xs))
    ∙ (ap (λ ys. done ++ flat_map f ys) (sym (drop_more xs i d l)) ∙ is))

pub ids_on : (sets : List (ParamSet Value)) (ids : List Id) (i : ℕ) (set : ParamSet Value) (id : Id) (done more all : List (ParamSet Value))
    → i < length sets → i < length ids → set ≡ get_or sets i set → id ≡ get_or ids i id
    → done ++ with_ids (drop i sets) (drop i ids) ≡ all → more ≡ done ++ with_id set id ∷ []
    → more ++ with_ids (drop (i + 1) sets) (drop (i + 1) ids) ≡ all
ids_on sets ids i set id done more all l m e f is new =
    ap (λ ys. ys ++ with_ids (drop (i + 1) sets) (drop (i + 1) ids)) new
    ∙ (append_assoc done (with_id set id ∷ []) (with_ids (drop (i + 1) sets) (drop (i + 1) ids))
    ∙ (ap (λ y. done ++ with_ids (y ∷ drop (i + 1) sets) (id ∷ drop (i + 1) ids)) e
    ∙ (ap (λ y. done ++ with_ids (get_or sets i set ∷ drop (i + 1) sets) (y ∷ drop (i + 1) ids)) f
    ∙ (ap (λ ys. done ++ with_ids ys (get_or ids i id ∷ drop (i + 1) ids)) (sym (drop_more sets i set l))
    ∙ (ap (λ ys. done ++ with_ids (drop i sets) ys) (sym (drop_more ids i id m)) ∙ is)))))

no_ids : (sets : List (ParamSet Value)) → with_ids sets [] ≡ []
no_ids [] = refl
no_ids (set ∷ sets) = refl

pub none_left : (sets : List (ParamSet Value)) (ids : List Id) (i : ℕ) → min (length sets) (length ids) ≤ i → with_ids (drop i sets) (drop i ids) ≡ []
none_left [] ids i le = ap (λ ss. with_ids ss (drop i ids)) (drop_all i [] (omega arith))
none_left (set ∷ sets) [] i le = ap (with_ids (drop i (set ∷ sets))) (drop_all i [] (omega arith)) ∙ no_ids (drop i (set ∷ sets))
none_left (set ∷ sets) (id ∷ ids) zero le = absurd (omega arith)
none_left (set ∷ sets) (id ∷ ids) (suc i) le = none_left sets ids i (omega arith)
