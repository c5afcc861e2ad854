-- Paths sorted by their parts.
use Rattle.std.proofs.Common.{◌≡◌, ℕ, ◌+◌, ◌<◌, List, [], ◌∷◌, Bool, true, false, cond, map, length, refl, sym, subst, ap, ◌∙◌, arith, Global, get_or}
use Rattle.std.specs.Prelude.{String, string_bytes, Contains, nat_eq, All, IsSorted, IsPermutation}
use Rattle.std.specs.declared.cmp.Ordering.{Ordering}
use Rattle.std.specs.declared.cmp.Ordering.TheVariants.{Less, Equal, Greater}
use Rattle.std.specs.declared.vec.Vec.{Vec}
use Rattle.std.specs.List.{dedup, dedup_from, list_any, join_with_byte}
use Rattle.std.specs.String.{string_eq, string_cmp}
use Rattle.std.specs.Ordering.{nat_cmp, is_lt, is_eq, ordering_then, eq_by_cmp}
use Rattle.std.specs.Cmp.{IsTotalOrder}
use Rattle.std.specs.Cmp.Lexicographic.{slice_cmp, pointwise}
use Rattle.std.specs.BTreeSet.{BTreeSet}
use Rattle.std.proofs.lemmas.Cmp.{nat_list_eq_equiv, nat_list_cmp_total, lists_total, on_total, tied_itself, eq_by_cmp_equiv}
use Rattle.std.proofs.lemmas.List.{get_or-map, length-map}
use Rattle.std.proofs.lemmas.List.Sorted.{IsPermutation-map, IsPermutation-sym, Contains-permutation, All-permutation}
use Rattle.std.proofs.lemmas.List.Kept.{IsStrictlySortedBy-dedup, Contains-dedup, Contains-from_dedup}
use Rattle.std.proofs.lemmas.List.Splits.{join_with_byte-slice_split}
use Rattle.std.proofs.lemmas.Slice.Eq.{bytes_eq-Decides}
use Rattle.std.proofs.lemmas.Map.Lookups.{btree_set_from_contains, exact_bytes}
use Rattle.std.proofs.lemmas.Map.Views.{Contains-from_any, list_any-from_Contains, tells_apart}
use Rattle.collect_words.specs.Paths.{parts}
use Rattle.collect_words.specs.Walks.{walk_cmp, IsWalk}
use Rattle.collect_words.specs.Keys.{Key, IsKeyed, key_paths}

-- ---- the order is total, and tells paths apart

walk_total : IsTotalOrder walk_cmp
walk_total = on_total parts (lists_total nat_list_cmp_total)

then_equal : (a b : Ordering) → ordering_then a b ≡ Equal → (a ≡ Equal) × (b ≡ Equal)
then_equal Less b h = cc
then_equal Equal b h = (refl, h)
then_equal Greater b h = cc

exact_lists : (xs ys : List (List ℕ)) → slice_cmp (slice_cmp nat_cmp) xs ys ≡ Equal → xs ≡ ys
exact_lists [] [] h = refl
exact_lists [] (y ∷ ys) h = cc
exact_lists (x ∷ xs) [] h = cc
exact_lists (x ∷ xs) (y ∷ ys) h =
    let both = then_equal (slice_cmp nat_cmp x y) (slice_cmp (slice_cmp nat_cmp) xs ys) h in
    ap (λ z. z ∷ xs) (exact_bytes x y both.0) ∙ ap (λ zs. y ∷ zs) (exact_lists xs ys both.1)

exact_walk : (x y : List ℕ) → walk_cmp x y ≡ Equal → x ≡ y
exact_walk x y h =
    sym (join_with_byte-slice_split 47 x) ∙ (ap (join_with_byte 47) (exact_lists (parts x) (parts y) h) ∙ join_with_byte-slice_split 47 y)

same_bool : (a b : Bool) → (a ≡ true → b ≡ true) → (b ≡ true → a ≡ true) → a ≡ b
same_bool true b h k = sym (h refl)
same_bool false true h k = k refl
same_bool false false h k = refl

equal_from : (o : Ordering) → is_eq o ≡ true → o ≡ Equal
equal_from Less h = cc
equal_from Equal h = refl
equal_from Greater h = cc

abbrev same_bytes : List ℕ → List ℕ → Bool
same_bytes = pointwise nat_eq

same_is : (p q : List ℕ) → same_bytes p q ≡ true → p ≡ q
same_is p q h = (bytes_eq-Decides p q).0 h

tied : (x y : List ℕ) → x ≡ y → is_eq (walk_cmp x y) ≡ true
tied x y e = ap is_eq (subst (λ p. walk_cmp x p ≡ Equal) e (tied_itself walk_total x))

walk_ties : (x y : List ℕ) → same_bytes x y ≡ eq_by_cmp walk_cmp x y
walk_ties x y =
    same_bool (same_bytes x y) (is_eq (walk_cmp x y))
    (λ h. tied x y (same_is x y h))
    (λ h. (bytes_eq-Decides x y).1 (exact_walk x y (equal_from (walk_cmp x y) h)))

-- ---- sorted keys

abbrev part_cmp : Vec ℕ Global → Vec ℕ Global → Ordering
part_cmp one other = slice_cmp nat_cmp one.items other.items

abbrev key_cmp : Key → Key → Ordering
key_cmp one other = ordering_then (slice_cmp part_cmp one.0.items other.0.items) (string_cmp one.1 other.1)

cmp_map : (xs ys : List (Vec ℕ Global)) → slice_cmp part_cmp xs ys ≡ slice_cmp (slice_cmp nat_cmp) (map (λ p. p.items) xs) (map (λ p. p.items) ys)
cmp_map [] [] = refl
cmp_map [] (y ∷ ys) = refl
cmp_map (x ∷ xs) [] = refl
cmp_map (x ∷ xs) (y ∷ ys) = ap (ordering_then (part_cmp x y)) (cmp_map xs ys)

not_less : (a b : Ordering) → is_lt (ordering_then a b) ≡ false → is_lt a ≡ false
not_less Less b h = h
not_less Equal b h = refl
not_less Greater b h = refl

abbrev path_of : Key → List ℕ
path_of key = string_bytes key.1

not_before : (one other : Key) → IsKeyed one → IsKeyed other → is_lt (key_cmp one other) ≡ false → is_lt (walk_cmp (path_of one) (path_of other)) ≡ false
not_before one other i j h =
    let cmp = slice_cmp (slice_cmp nat_cmp) in
    let e : slice_cmp part_cmp one.0.items other.0.items ≡ walk_cmp (path_of one) (path_of other) =
    cmp_map one.0.items other.0.items
    ∙ (ap (λ a. slice_cmp (slice_cmp nat_cmp) a (map (λ p. p.items) other.0.items)) i ∙ ap (slice_cmp (slice_cmp nat_cmp) (parts (path_of one))) j) in
    subst (λ o. is_lt o ≡ false) e (not_less _ _ h)

sorted_paths : (keys : List Key) → All IsKeyed keys → IsSorted key_cmp keys → IsSorted walk_cmp (key_paths keys)
sorted_paths [] a h k d l m = absurd (omega arith)
sorted_paths (x ∷ xs) a h k d l m =
    let more : k + 1 < length (x ∷ xs) = simp length-map at m in
    let here : k < length (x ∷ xs) = omega arith in
    rw (get_or-map path_of (x ∷ xs) (k + 1) x d more, get_or-map path_of (x ∷ xs) k x d here)
    (not_before (get_or (x ∷ xs) (k + 1) x) (get_or (x ∷ xs) k x) (a (k + 1) x more) (a k x here) (h k x l more))

-- ---- each once

cond_map : (b : Bool) (p q : List (String Global)) (p' q' : List (List ℕ)) → map string_bytes p ≡ p' → map string_bytes q ≡ q' → map string_bytes (cond b p q) ≡ cond b p' q'
cond_map true p q p' q' h k = h
cond_map false p q p' q' h k = k

dedup_from-map : (x : String Global) (xs : List (String Global)) → map string_bytes (dedup_from string_eq x xs) ≡ dedup_from same_bytes (string_bytes x) (map string_bytes xs)
dedup_from-map x [] = refl
dedup_from-map x (y ∷ ys) = cond_map (string_eq y x) _ _ _ _ (dedup_from-map x ys) (ap (λ zs. string_bytes x ∷ zs) (dedup_from-map y ys))

dedup-map : (xs : List (String Global)) → map string_bytes (dedup string_eq xs) ≡ dedup same_bytes (map string_bytes xs)
dedup-map [] = refl
dedup-map (x ∷ xs) = dedup_from-map x xs

-- sorted keys give the walk
pub walk_from_keys :
    (paths : List (List ℕ)) (keys sorted : List Key) (texts kept : List (String Global))
    → key_paths keys ≡ paths → All IsKeyed keys → IsPermutation keys sorted → IsSorted key_cmp sorted
    → map string_bytes texts ≡ key_paths sorted → kept ≡ dedup string_eq texts → IsWalk paths (map string_bytes kept)
walk_from_keys paths keys sorted texts kept same keyed moved order are once =
    let is : map string_bytes kept ≡ dedup same_bytes (key_paths sorted) = ap (map string_bytes) once ∙ (dedup-map texts ∙ ap (dedup same_bytes) are) in
    let there : IsPermutation (key_paths keys) (key_paths sorted) = IsPermutation-map path_of keys sorted moved in
    record {
      same = λ path. (
        λ h. subst (λ ps. Contains ps path) same (Contains-permutation _ _ path (IsPermutation-sym _ _ there) (Contains-from_dedup same_bytes (key_paths sorted) path (subst (λ ps. Contains ps path) is h))),
        λ h. subst (λ ps. Contains ps path) (sym is) (Contains-dedup nat_list_eq_equiv same_is (key_paths sorted) path (Contains-permutation _ _ path there (subst (λ ps. Contains ps path) (sym same) h))),
      );
      order = rw is (IsStrictlySortedBy-dedup walk_total walk_ties (key_paths sorted) (sorted_paths sorted (All-permutation IsKeyed keys sorted moved keyed) order));
    }

-- ---- one walk

abbrev same : List ℕ → List ℕ → Bool
same = eq_by_cmp walk_cmp

pub one_walk : (paths walk other : List (List ℕ)) → IsWalk paths walk → IsWalk paths other → walk ≡ other
one_walk paths walk other a b =
    let laws = eq_by_cmp_equiv walk_total in
    btree_set_from_contains walk_total (let s : BTreeSet (List ℕ) = record { keys = walk } in s) (let t : BTreeSet (List ℕ) = record { keys = other } in t) a.order b.order
    (λ p. same_bool (list_any (same p) walk) (list_any (same p) other)
    (λ h. list_any-from_Contains laws p other ((b.same p).1 ((a.same p).0 (Contains-from_any (tells_apart exact_walk) p walk h))))
    (λ h. list_any-from_Contains laws p walk ((a.same p).1 ((b.same p).0 (Contains-from_any (tells_apart exact_walk) p other h)))))
    exact_walk
