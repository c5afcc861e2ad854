-- What is left of a list behind a place.
use Rattle.std.proofs.Common.{◌≡◌, ℕ, zero, suc, ◌+◌, Bool, true, false, List, [], ◌∷◌, ◌++◌, drop, None, Some, refl, sym, ap, ◌∙◌, map}
use Rattle.std.specs.Prelude.{flat_map, slice_get, if◌then◌else◌}
use Rattle.std.specs.List.{filter}
use Rattle.std.proofs.lemmas.List.{append_assoc, append-nil, drop_more}
use Rattle.std.proofs.lemmas.Option.{get_or_from_slice_get, slice_get_within}

none_left : {X Y : Type 0} (f : X → List Y) (xs : List X) (i : ℕ) → None ≡ slice_get xs i → flat_map f (drop i xs) ≡ []
none_left f [] zero e = refl
none_left f [] (suc i) e = refl
none_left f (x ∷ xs) zero e = absurd (cc e)
none_left f (x ∷ xs) (suc i) e = none_left f xs i e

one_left : {X Y : Type 0} (f : X → List Y) (xs : List X) (i : ℕ) (x : X) → slice_get xs i ≡ Some x → flat_map f (drop i xs) ≡ f x ++ flat_map f (drop (i + 1) xs)
one_left f xs i x e =
    ap (flat_map f) (drop_more xs i x (slice_get_within xs i x e))
    ∙ ap (λ y. f y ++ flat_map f (drop (i + 1) xs)) (get_or_from_slice_get xs i x x e)

-- a list that has what stands before a place, at the list's end and one place further
pub whole : {X Y : Type 0} (f : X → List Y) (found all : List Y) (xs : List X) (i : ℕ) → found ++ flat_map f (drop i xs) ≡ all → None ≡ slice_get xs i → found ≡ all
whole f found all xs i is e = sym (append-nil found) ∙ (ap (λ ys. found ++ ys) (sym (none_left f xs i e)) ∙ is)

pub further : {X Y : Type 0} (f : X → List Y) (found more all : List Y) (xs : List X) (i : ℕ) (x : X) → found ++ flat_map f (drop i xs) ≡ all → Some x ≡ slice_get xs i → more ≡ found ++ f x → more ++ flat_map f (drop (i + 1) xs) ≡ all
further f found more all xs i x is e new =
    ap (λ ys. ys ++ flat_map f (drop (i + 1) xs)) new
    ∙ (append_assoc found (f x) (flat_map f (drop (i + 1) xs))
    ∙ (ap (λ ys. found ++ ys) (sym (one_left f xs i x (sym e))) ∙ is))

-- what a filter keeps of one element
abbrev pub kept_one : {X Y : Type 0} → (X → Bool) → (X → Y) → X → List Y
kept_one p g x = map g (filter p (x ∷ []))

front : {X Y : Type 0} (p : X → Bool) (g : X → Y) (x : X) (xs : List X) → map g (filter p (x ∷ xs)) ≡ kept_one p g x ++ map g (filter p xs)
front p g x xs =
    elim (p x) as (λ b. map g (if b then x ∷ filter p xs else filter p xs) ≡ map g (if b then x ∷ [] else []) ++ map g (filter p xs)) [
      | true ↦ refl
      | false ↦ refl
    ]

-- a filter goes element by element
pub filtered : {X Y : Type 0} (p : X → Bool) (g : X → Y) (xs : List X) → flat_map (kept_one p g) xs ≡ map g (filter p xs)
filtered p g [] = refl
filtered p g (x ∷ xs) = ap (λ ys. kept_one p g x ++ ys) (filtered p g xs) ∙ sym (front p g x xs)
