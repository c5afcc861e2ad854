-- Places that are gone through from the first.
use Rattle.std.proofs.Common.{◌≡◌, ℕ, ◌+◌, Bool, List, ◌++◌, ◌∷◌, [], ap, sym, ◌∙◌, arith}
use Rattle.std.specs.List.{range_with_len, filter}
use Rattle.std.proofs.lemmas.List.{map-id}
use Rattle.std.proofs.lemmas.List.Elements.{filter-append}
use Rattle.std.proofs.lemmas.List.FromFn.{map-range_with_len_more}

-- one place more
pub places_more : (n : ℕ) → range_with_len 0 (n + 1) ≡ range_with_len 0 n ++ n ∷ []
places_more n =
    sym (map-id (range_with_len 0 (n + 1))) ∙ map-range_with_len_more (λ (x : ℕ). x) 0 n n (omega arith)
    ∙ ap (λ xs. xs ++ n ∷ []) (map-id (range_with_len 0 n))

-- those of the places that pass a test, one place more
pub places_step : (p : ℕ → Bool) (n : ℕ) (taken new : List ℕ) → taken ≡ filter p (range_with_len 0 n) → new ≡ taken ++ filter p (n ∷ []) → new ≡ filter p (range_with_len 0 (n + 1))
places_step p n taken new h k =
    k ∙ (ap (λ xs. xs ++ filter p (n ∷ [])) h ∙ (sym (filter-append p (range_with_len 0 n) (n ∷ [])) ∙ ap (filter p) (sym (places_more n))))
