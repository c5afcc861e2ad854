-- One element more of a list that is gone through.
use Rattle.std.proofs.Common.{◌≡◌, ℕ, ◌+◌, ◌<◌, Bool, true, false, List, [], ◌∷◌, ◌++◌, length, drop, get_or, refl, sym, ap, ◌∙◌}
use Rattle.std.specs.Prelude.{flat_map, if◌then◌else◌}
use Rattle.std.specs.List.{filter}
use Rattle.std.proofs.lemmas.List.{append_assoc, drop_more}

first_kept : {X : Type 0} (p : X → Bool) (x : X) (xs : List X) → filter p (x ∷ xs) ≡ filter p (x ∷ []) ++ filter p xs
first_kept p x xs = step (p x)
  where
    step : (b : Bool) → (if b then x ∷ filter p xs else filter p xs) ≡ (if b then x ∷ [] else []) ++ filter p xs
    step true = refl
    step false = refl

-- numbers are read by their place
pub kept_at : (p : ℕ → Bool) (xs : List ℕ) (i : ℕ) (done more all : List ℕ)
    → i < length xs → done ++ filter p (drop i xs) ≡ all → more ≡ done ++ filter p (get_or xs i 0 ∷ []) → more ++ filter p (drop (i + 1) xs) ≡ all
kept_at p xs i done more all l is new =
    ap (λ ys. ys ++ filter p (drop (i + 1) xs)) new
    ∙ (append_assoc done (filter p (get_or xs i 0 ∷ [])) (filter p (drop (i + 1) xs))
    ∙ (ap (λ ys. done ++ ys) (sym (first_kept p (get_or xs i 0) (drop (i + 1) xs)))
    ∙ (ap (λ ys. done ++ filter p ys) (sym (drop_more xs i 0 l)) ∙ is)))

pub flat_at : {X Y : Type 0} (f : X → List Y) (xs : List X) (i : ℕ) (d : X) (done more all : List Y)
    → i < length xs → done ++ flat_map f (drop i xs) ≡ all → more ≡ done ++ f (get_or xs i d) → more ++ flat_map f (drop (i + 1) xs) ≡ all
flat_at f xs i d done more all l is new =
    ap (λ ys. ys ++ flat_map f (drop (i + 1) xs)) new
    ∙ (append_assoc done (f (get_or xs i d)) (flat_map f (drop (i + 1) xs))
    ∙ (ap (λ ys. done ++ flat_map f ys) (sym (drop_more xs i d l)) ∙ is))
