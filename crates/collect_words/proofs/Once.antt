-- Numbers taken one after another, and what a loop over a list has made at its next step.
use Rattle.std.proofs.Common.{◌≡◌, ℕ, ◌+◌, ◌<◌, List, [], ◌∷◌, ◌++◌, Bool, true, false, cond, length, take, get_or, refl, sym, ap, ◌∙◌}
use Rattle.std.specs.List.{flat_map}
use Rattle.std.proofs.lemmas.List.{take_more, get_or_default, append-nil}
use Rattle.std.proofs.lemmas.List.Concat.{flat_map-append}
use Rattle.collect_words.specs.Files.{each_once, includes_number}

cond_both : (b : Bool) (xs ys us vs : List ℕ) → xs ≡ us → ys ≡ vs → cond b xs ys ≡ cond b us vs
cond_both true xs ys us vs h k = h
cond_both false xs ys us vs h k = k

cond_out : (b : Bool) (xs ys zs : List ℕ) → cond b (each_once xs zs) (each_once ys zs) ≡ each_once (cond b xs ys) zs
cond_out true xs ys zs = refl
cond_out false xs ys zs = refl

-- a list behind another
pub each_once_more : (taken xs ys : List ℕ) → each_once taken (xs ++ ys) ≡ each_once (each_once taken xs) ys
each_once_more taken [] ys = refl
each_once_more taken (x ∷ xs) ys =
    cond_both (includes_number x taken) _ _ _ _ (each_once_more taken xs ys) (each_once_more (taken ++ x ∷ []) xs ys)
    ∙ cond_out (includes_number x taken) (each_once taken xs) (each_once (taken ++ x ∷ []) xs) ys

module _ {X : Type 0} where
  one_more : (xs : List X) (i : ℕ) (x : X) → i < length xs → x ≡ get_or xs i x → take (i + 1) xs ≡ take i xs ++ x ∷ []
  one_more xs i x l e = take_more xs i x l ∙ ap (λ y. take i xs ++ y ∷ []) (sym e)

  -- what is pushed for one element more
  pub list_step : {Y : Type 0} (F : List X → List Y) → ((xs ys : List X) → F (xs ++ ys) ≡ F xs ++ F ys) → (xs : List X) (i : ℕ) (x : X) (taken new : List Y) → i < length xs → x ≡ get_or xs i x → taken ≡ F (take i xs) → new ≡ taken ++ F (x ∷ []) → new ≡ F (take (i + 1) xs)
  list_step F hom xs i x taken new l e h k =
      k ∙ (ap (λ t. t ++ F (x ∷ [])) h ∙ (sym (hom (take i xs) (x ∷ [])) ∙ ap F (sym (one_more xs i x l e))))

  -- what is taken for one element more
  pub once_step : (F : List X → List ℕ) → ((xs ys : List X) → F (xs ++ ys) ≡ F xs ++ F ys) → (first : List ℕ) (xs : List X) (i : ℕ) (x : X) (taken new : List ℕ) → i < length xs → x ≡ get_or xs i x → taken ≡ each_once first (F (take i xs)) → new ≡ each_once taken (F (x ∷ [])) → new ≡ each_once first (F (take (i + 1) xs))
  once_step F hom first xs i x taken new l e h k =
      k ∙ (ap (λ t. each_once t (F (x ∷ []))) h
      ∙ (sym (each_once_more first (F (take i xs)) (F (x ∷ [])))
      ∙ ap (each_once first) (sym (hom (take i xs) (x ∷ [])) ∙ ap F (sym (one_more xs i x l e)))))

  pub flat_step : (f : X → List ℕ) (first : List ℕ) (xs : List X) (i : ℕ) (x : X) (taken new : List ℕ) → i < length xs → x ≡ get_or xs i x → taken ≡ each_once first (flat_map f (take i xs)) → new ≡ each_once taken (f x) → new ≡ each_once first (flat_map f (take (i + 1) xs))
  flat_step f first xs i x taken new l e h k =
      once_step (flat_map f) (flat_map-append f) first xs i x taken new l e h (k ∙ ap (each_once taken) (sym (append-nil (f x))))

-- the same over numbers
pub number_step : (F : List ℕ → List ℕ) → ((xs ys : List ℕ) → F (xs ++ ys) ≡ F xs ++ F ys) → (first xs : List ℕ) (i : ℕ) (taken new : List ℕ) → i < length xs → taken ≡ each_once first (F (take i xs)) → new ≡ each_once taken (F (get_or xs i 0 ∷ [])) → new ≡ each_once first (F (take (i + 1) xs))
number_step F hom first xs i taken new l h k =
    once_step F hom first xs i (get_or xs i 0) taken new l (get_or_default xs i 0 (get_or xs i 0) l) h k

pub flat_number_step : (f : ℕ → List ℕ) (first xs : List ℕ) (i : ℕ) (taken new : List ℕ) → i < length xs → taken ≡ each_once first (flat_map f (take i xs)) → new ≡ each_once taken (f (get_or xs i 0)) → new ≡ each_once first (flat_map f (take (i + 1) xs))
flat_number_step f first xs i taken new l h k =
    flat_step f first xs i (get_or xs i 0) taken new l (get_or_default xs i 0 (get_or xs i 0) l) h k
