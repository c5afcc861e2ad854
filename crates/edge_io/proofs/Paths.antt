use Rattle.std.proofs.Common.{◌≡◌, ℕ, ◌+◌, ◌<◌, List, [], ◌∷◌, Bool, true, false, cond, map, length, refl, sym, subst, ap, ◌∙◌, arith, Global}
use Rattle.std.specs.Prelude.{◌↔◌, String, string_bytes, Contains, nat_eq, IsSorted, IsPermutation}
use Rattle.std.specs.List.{dedup, dedup_from}
use Rattle.std.specs.String.{string_eq, string_cmp}
use Rattle.std.specs.Ordering.{nat_cmp}
use Rattle.std.specs.Cmp.Lexicographic.{slice_cmp, pointwise, nat_list_cmp_total, texts_ties}
use Rattle.std.proofs.lemmas.Cmp.{nat_list_eq_equiv}
use Rattle.std.proofs.lemmas.List.{get_or-map, length-map}
use Rattle.std.proofs.lemmas.List.Sorted.{IsPermutation-map, IsPermutation-sym, Contains-permutation}
use Rattle.std.proofs.lemmas.List.Kept.{IsStrictlySortedBy-dedup, Contains-dedup, Contains-from_dedup}
use Rattle.std.proofs.lemmas.Slice.Eq.{bytes_eq-Decides}
use Rattle.edge_io.specs.Files.{InOrder}

-- the test of equal paths
abbrev same_bytes : List ℕ → List ℕ → Bool
same_bytes = pointwise nat_eq

same_is : (p q : List ℕ) → same_bytes p q ≡ true → p ≡ q
same_is p q h = (bytes_eq-Decides p q).0 h

cond_map : (b : Bool) (p q : List (String Global)) (p' q' : List (List ℕ)) → map string_bytes p ≡ p' → map string_bytes q ≡ q' → map string_bytes (cond b p q) ≡ cond b p' q'
cond_map true p q p' q' h k = h
cond_map false p q p' q' h k = k

dedup_from-map : (x : String Global) (xs : List (String Global)) → map string_bytes (dedup_from string_eq x xs) ≡ dedup_from same_bytes (string_bytes x) (map string_bytes xs)
dedup_from-map x [] = refl
dedup_from-map x (y ∷ ys) = cond_map (string_eq y x) _ _ _ _ (dedup_from-map x ys) (ap (λ zs. string_bytes x ∷ zs) (dedup_from-map y ys))

dedup-map : (xs : List (String Global)) → map string_bytes (dedup string_eq xs) ≡ dedup same_bytes (map string_bytes xs)
dedup-map [] = refl
dedup-map (x ∷ xs) = dedup_from-map x xs

sorted_map : (xs : List (String Global)) → IsSorted string_cmp xs → IsSorted (slice_cmp nat_cmp) (map string_bytes xs)
sorted_map [] h k d l m = absurd (omega arith)
sorted_map (x ∷ xs) h k d l m =
    let more : k + 1 < length (x ∷ xs) = simp length-map at m in
    let here : k < length (x ∷ xs) = omega arith in
    rw (get_or-map string_bytes (x ∷ xs) (k + 1) x d more, get_or-map string_bytes (x ∷ xs) k x d here) (h k x l more)

-- sorted paths, each once
pub deduped_order : (sorted kept : List (String Global)) → IsSorted string_cmp sorted → kept ≡ dedup string_eq sorted → InOrder (map string_bytes kept)
deduped_order sorted kept o e =
    subst InOrder (sym (ap (map string_bytes) e ∙ dedup-map sorted))
    (IsStrictlySortedBy-dedup nat_list_cmp_total texts_ties (map string_bytes sorted) (sorted_map sorted o))

-- no path is lost, and none is new
pub deduped_members : (paths sorted kept : List (String Global)) → IsPermutation paths sorted → kept ≡ dedup string_eq sorted → (path : List ℕ) → Contains (map string_bytes kept) path ↔ Contains (map string_bytes paths) path
deduped_members paths sorted kept p e path =
    let P : List (List ℕ) → Type 0 = λ xs. Contains xs path in
    let is : map string_bytes kept ≡ dedup same_bytes (map string_bytes sorted) = ap (map string_bytes) e ∙ dedup-map sorted in
    let moved = IsPermutation-map string_bytes paths sorted p in (
      λ h. Contains-permutation _ _ path (IsPermutation-sym _ _ moved) (Contains-from_dedup same_bytes (map string_bytes sorted) path (subst P is h)),
      λ h. subst P (sym is) (Contains-dedup nat_list_eq_equiv same_is (map string_bytes sorted) path (Contains-permutation _ _ path moved h)),
    )
