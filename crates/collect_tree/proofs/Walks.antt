-- Paths that are put in their places are a walk.
use Rattle.std.proofs.Common.{◌≡◌, ℕ, zero, suc, ◌<◌, List, [], ◌∷◌, ◌⊎◌, inl, inr, length, get_or, refl, sym, subst, ap, ◌∙◌, arith}
use Rattle.std.specs.Prelude.{Contains}
use Rattle.std.specs.List.{AllByRecursion, join_with_byte}
use Rattle.std.specs.List.Sorted.{IsStrictlySortedBy}
use Rattle.std.specs.declared.cmp.Ordering.{Ordering}
use Rattle.std.specs.declared.cmp.Ordering.TheVariants.{Less, Equal, Greater}
use Rattle.std.specs.Ordering.{nat_cmp, ordering_reverse, ordering_then}
use Rattle.std.specs.Cmp.{IsTotalOrder}
use Rattle.std.specs.Cmp.Lexicographic.{slice_cmp}
use Rattle.std.proofs.lemmas.Cmp.{nat_list_cmp_total, lists_total, on_total}
use Rattle.std.proofs.lemmas.List.Splits.{join_with_byte-slice_split}
use Rattle.std.proofs.lemmas.Map.Lookups.{exact_bytes}
use Rattle.collect_words.specs.Paths.{parts}
use Rattle.collect_words.specs.Walks.{walk_cmp, IsWalk}
use Rattle.collect_tree.specs.Walk.{insert_path, insert_path_by, walk_of}

abbrev Path : Type 0
Path = List ℕ

-- ---- the order is total, and tells paths apart

walk_total : IsTotalOrder walk_cmp
walk_total = on_total parts (lists_total nat_list_cmp_total)

then_equal : (a b : Ordering) → ordering_then a b ≡ Equal → (a ≡ Equal) × (b ≡ Equal)
then_equal Less b h = cc
then_equal Equal b h = (refl, h)
then_equal Greater b h = cc

exact_lists : (xs ys : List Path) → slice_cmp (slice_cmp nat_cmp) xs ys ≡ Equal → xs ≡ ys
exact_lists [] [] h = refl
exact_lists [] (y ∷ ys) h = cc
exact_lists (x ∷ xs) [] h = cc
exact_lists (x ∷ xs) (y ∷ ys) h =
    let both = then_equal (slice_cmp nat_cmp x y) (slice_cmp (slice_cmp nat_cmp) xs ys) h in
    ap (λ z. z ∷ xs) (exact_bytes x y both.0) ∙ ap (λ zs. y ∷ zs) (exact_lists xs ys both.1)

exact_walk : (x y : Path) → walk_cmp x y ≡ Equal → x ≡ y
exact_walk x y h =
    sym (join_with_byte-slice_split 47 x) ∙ (ap (join_with_byte 47) (exact_lists (parts x) (parts y) h) ∙ join_with_byte-slice_split 47 y)

turned : (path other : Path) → walk_cmp path other ≡ Greater → walk_cmp other path ≡ Less
turned path other h = walk_total.antisymm other path ∙ ap ordering_reverse h

-- ---- it stays in order

all_map : (P Q : Path → Type 0) → ((x : Path) → P x → Q x) → (xs : List Path) → AllByRecursion P xs → AllByRecursion Q xs
all_map P Q f [] all = tt
all_map P Q f (x ∷ xs) all = (f x all.0, all_map P Q f xs all.1)

all_by : (P : Path → Type 0) (c : Ordering) (path other : Path) (rest behind : List Path)
    → P path → P other → AllByRecursion P rest → AllByRecursion P behind → AllByRecursion P (insert_path_by c path other rest behind)
all_by P Less path other rest behind p o all more = (p, (o, all))
all_by P Equal path other rest behind p o all more = (o, all)
all_by P Greater path other rest behind p o all more = (o, more)

all_placed : (P : Path → Type 0) (path : Path) (walk : List Path) → P path → AllByRecursion P walk → AllByRecursion P (insert_path path walk)
all_placed P path [] p all = (p, tt)
all_placed P path (other ∷ rest) p all =
    all_by P (walk_cmp path other) path other rest (insert_path path rest) p all.0 all.1 (all_placed P path rest p all.1)

sorted_by : (c : Ordering) (path other : Path) (rest : List Path) → walk_cmp path other ≡ c
    → IsStrictlySortedBy walk_cmp (other ∷ rest) → IsStrictlySortedBy walk_cmp (insert_path path rest) → IsStrictlySortedBy walk_cmp (insert_path_by c path other rest (insert_path path rest))
unfolding IsStrictlySortedBy
sorted_by Less path other rest e h more =
    ((e, all_map (λ y. walk_cmp other y ≡ Less) (λ y. walk_cmp path y ≡ Less) (λ y l. walk_total.trans path other y e l) rest h.0), h)
sorted_by Equal path other rest e h more = h
sorted_by Greater path other rest e h more = (all_placed (λ y. walk_cmp other y ≡ Less) path rest (turned path other e) h.0, more)

sorted_placed : (path : Path) (walk : List Path) → IsStrictlySortedBy walk_cmp walk → IsStrictlySortedBy walk_cmp (insert_path path walk)
unfolding IsStrictlySortedBy
sorted_placed path [] h = (tt, tt)
sorted_placed path (other ∷ rest) h = sorted_by (walk_cmp path other) path other rest refl h (sorted_placed path rest h.1)

sorted_walk : (paths : List Path) → IsStrictlySortedBy walk_cmp (walk_of paths)
unfolding IsStrictlySortedBy walk_of
sorted_walk [] = tt
sorted_walk (path ∷ paths) = sorted_placed path (walk_of paths) (sorted_walk paths)

-- ---- it has the same paths

here : (x : Path) (xs : List Path) → Contains (x ∷ xs) x
here x xs = (0, omega arith, refl)

there : (x z : Path) (xs : List Path) → Contains xs z → Contains (x ∷ xs) z
there x z xs c = let lt = c.1 in (suc c.0, omega arith, c.2)

split_at : (x z : Path) (xs : List Path) (k : ℕ) → k < length (x ∷ xs) → get_or (x ∷ xs) k z ≡ z → (x ≡ z) ⊎ Contains xs z
split_at x z xs zero l e = inl e
split_at x z xs (suc k) l e = inr (k, omega arith, e)

split : (x z : Path) (xs : List Path) → Contains (x ∷ xs) z → (x ≡ z) ⊎ Contains xs z
split x z xs c = split_at x z xs c.0 c.1 c.2

first_is : (x z : Path) (xs : List Path) → x ≡ z → Contains (x ∷ xs) z
first_is x z xs e = subst (Contains (x ∷ xs)) e (here x xs)

behind_other : (path other z : Path) (rest : List Path) → (path ≡ z) ⊎ Contains rest z → Contains (path ∷ other ∷ rest) z
behind_other path other z rest (inl e) = first_is path z (other ∷ rest) e
behind_other path other z rest (inr c) = there path z (other ∷ rest) (there other z rest c)

from_behind : (path other z : Path) (rest behind : List Path) → (Contains behind z → Contains (path ∷ rest) z) → (other ≡ z) ⊎ Contains behind z → Contains (path ∷ other ∷ rest) z
from_behind path other z rest behind f (inl e) = there path z (other ∷ rest) (first_is other z rest e)
from_behind path other z rest behind f (inr c) = behind_other path other z rest (split path z rest (f c))

had_by : (c : Ordering) (path other z : Path) (rest behind : List Path) → (Contains behind z → Contains (path ∷ rest) z) → Contains (insert_path_by c path other rest behind) z → Contains (path ∷ other ∷ rest) z
had_by Less path other z rest behind f c = c
had_by Equal path other z rest behind f c = there path z (other ∷ rest) c
had_by Greater path other z rest behind f c = from_behind path other z rest behind f (split other z behind c)

had : (path z : Path) (walk : List Path) → Contains (insert_path path walk) z → Contains (path ∷ walk) z
had path z [] c = c
had path z (other ∷ rest) c = had_by (walk_cmp path other) path other z rest (insert_path path rest) (had path z rest) c

to_behind : (path other z : Path) (rest behind : List Path) → (Contains (path ∷ rest) z → Contains behind z) → (other ≡ z) ⊎ Contains rest z → Contains (other ∷ behind) z
to_behind path other z rest behind f (inl e) = first_is other z behind e
to_behind path other z rest behind f (inr c) = there other z behind (f (there path z rest c))

past_path : (path other z : Path) (rest behind : List Path) → (Contains (path ∷ rest) z → Contains behind z) → (path ≡ z) ⊎ Contains (other ∷ rest) z → Contains (other ∷ behind) z
past_path path other z rest behind f (inl e) = there other z behind (f (first_is path z rest e))
past_path path other z rest behind f (inr c) = to_behind path other z rest behind f (split other z rest c)

same_path : (path other z : Path) (rest : List Path) → path ≡ other → (path ≡ z) ⊎ Contains (other ∷ rest) z → Contains (other ∷ rest) z
same_path path other z rest s (inl e) = first_is other z rest (sym s ∙ e)
same_path path other z rest s (inr c) = c

kept_by : (c : Ordering) (path other z : Path) (rest behind : List Path) → walk_cmp path other ≡ c → (Contains (path ∷ rest) z → Contains behind z)
    → Contains (path ∷ other ∷ rest) z → Contains (insert_path_by c path other rest behind) z
kept_by Less path other z rest behind e f c = c
kept_by Equal path other z rest behind e f c = same_path path other z rest (exact_walk path other e) (split path z (other ∷ rest) c)
kept_by Greater path other z rest behind e f c = past_path path other z rest behind f (split path z (other ∷ rest) c)

kept : (path z : Path) (walk : List Path) → Contains (path ∷ walk) z → Contains (insert_path path walk) z
kept path z [] c = c
kept path z (other ∷ rest) c = kept_by (walk_cmp path other) path other z rest (insert_path path rest) refl (kept path z rest) c

further : (path z : Path) (one other : List Path) → (Contains one z → Contains other z) → (path ≡ z) ⊎ Contains one z → Contains (path ∷ other) z
further path z one other f (inl e) = first_is path z other e
further path z one other f (inr c) = there path z other (f c)

had_all : (paths : List Path) (z : Path) → Contains (walk_of paths) z → Contains paths z
unfolding walk_of
had_all [] z c = c
had_all (path ∷ paths) z c = further path z (walk_of paths) paths (had_all paths z) (split path z (walk_of paths) (had path z (walk_of paths) c))

kept_all : (paths : List Path) (z : Path) → Contains paths z → Contains (walk_of paths) z
unfolding walk_of
kept_all [] z c = c
kept_all (path ∷ paths) z c = kept path z (walk_of paths) (further path z paths (walk_of paths) (kept_all paths z) (split path z paths c))

pub is_walk : (paths : List Path) → IsWalk paths (walk_of paths)
is_walk paths = record { same = λ z. (had_all paths z, kept_all paths z); order = sorted_walk paths }
