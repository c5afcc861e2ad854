-- Names looked through from the first one on.
use Rattle.std.proofs.Common.{◌≡◌, ◌+◌, ◌∙◌, ℕ, zero, suc, List, [], ◌∷◌, true, false, drop, Some, None, ap, sym, refl}
use Rattle.std.specs.Prelude.{slice_get}
use Rattle.std.proofs.lemmas.List.{drop_more}
use Rattle.std.proofs.lemmas.Option.{get_or_from_slice_get, slice_get_within}
use Rattle.py_values.specs.declared.value.Value.{Value}
use Rattle.py_values.specs.Names.{find_name, name_eq}

module _ (name : List ℕ) (names : List (List ℕ × Value)) (at : ℕ) (key : List ℕ) (v : Value) (before : find_name name names ≡ find_name name (drop at names)) (here : Some (key, v) ≡ slice_get names at) where
  next : drop at names ≡ (key, v) ∷ drop (at + 1) names
  next =
      drop_more names at (key, v) (slice_get_within names at (key, v) (sym here))
      ∙ ap (λ (e : List ℕ × Value). e ∷ drop (at + 1) names) (get_or_from_slice_get names at (key, v) (key, v) (sym here))

  pub early_found : name_eq name key ≡ true → Some v ≡ find_name name names
  early_found h = sym (before ∙ ap (find_name name) next ∙ rw h refl)

  pub early_more : name_eq name key ≡ false → find_name name names ≡ find_name name (drop (at + 1) names)
  early_more h = before ∙ ap (find_name name) next ∙ rw h refl

-- behind the last name there is no other
dropped : (names : List (List ℕ × Value)) (at : ℕ) → None ≡ slice_get names at → drop at names ≡ []
dropped [] zero h = refl
dropped [] (suc at) h = refl
dropped (e ∷ es) zero h = absurd cc
dropped (e ∷ es) (suc at) h = dropped es at h

pub early_none : (name : List ℕ) (names : List (List ℕ × Value)) (at : ℕ) → find_name name names ≡ find_name name (drop at names) → None ≡ slice_get names at → None ≡ find_name name names
early_none name names at before over = sym (before ∙ ap (find_name name) (dropped names at over))
