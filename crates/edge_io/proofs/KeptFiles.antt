use Rattle.std.proofs.Common.{Global, ◌≡◌, ◌≢◌, ℕ, ◌<◌, ◌≤◌, List, [], ◌∷◌, Bool, true, false, cond, map, Option, Some, None, length, refl, sym, subst, ap, ◌∙◌, arith, get_or, zero, suc}
use Rattle.std.specs.Prelude.{String, string_bytes, ◌↔◌, IsSome, IfSome, IsTrue, All, Contains, filter, unwrap_or}
use Rattle.std.specs.declared.cmp.Ordering.TheVariants.{Less, Equal}
use Rattle.std.specs.Ordering.{nat_cmp}
use Rattle.std.specs.Cmp.Lexicographic.{slice_cmp, nat_list_cmp_total}
use Rattle.std.specs.List.{AllPairs}
use Rattle.std.proofs.lemmas.Cmp.{nat_list_eq_equiv, tied_itself}
use Rattle.std.proofs.lemmas.Slice.Eq.{bytes_eq-Decides}
use Rattle.std.proofs.lemmas.List.{length-map}
use Rattle.std.proofs.lemmas.List.Elements.{Contains-get_or, filter_passes, Contains-append_right}
use Rattle.std.proofs.lemmas.Bool.{le-ltb, lt-ltb}
use Rattle.std.proofs.lemmas.Map.Keys.{Less-from_sorted}
use Rattle.std.proofs.lemmas.Map.Views.{Contains-keys_from_lookup, IsSome-lookup_from_Contains}
use Rattle.edge_io.specs.Files.{File, InOrder, IsKept, ListsKept, ListsPaths, file_at, is_kept, paths_of, with_bytes, tree_limit, files_most, size_limit, ManyFiles, TreeLimit}

-- what holds of each element that a list contains
All-from_members : {X : Type 0} (P : X → Type 0) (xs : List X) → ((x : X) → Contains xs x → P x) → All P xs
All-from_members P xs h i d l = h (get_or xs i d) (Contains-get_or xs i d l)

pub All-member : {X : Type 0} (P : X → Type 0) (xs : List X) (x : X) → All P xs → Contains xs x → P x
All-member P xs x all (i, l, e) = subst P e (all i x (let m : i < length xs = l in m))

-- a tree has a file at a path just where the path is one of its files'
pub has_file : (fs : List File) (path : List ℕ) → Contains (paths_of fs) path → IsSome (file_at path fs)
has_file fs path h = IsSome-lookup_from_Contains nat_list_eq_equiv path fs h

file_is_listed : (fs : List File) (path : List ℕ) → IsSome (file_at path fs) → Contains (paths_of fs) path
file_is_listed fs path h = Contains-keys_from_lookup (λ p q e. (bytes_eq-Decides p q).0 e) path fs h

Less≢Equal : Less ≡ Equal → ⊥
Less≢Equal e = cc

-- paths in order differ
differ : (paths : List (List ℕ)) → InOrder paths → AllPairs (λ path other. path ≢ other) paths
differ paths order i j d l m e =
    let less : slice_cmp nat_cmp (get_or paths i d) (get_or paths j d) ≡ Less = Less-from_sorted (slice_cmp nat_cmp) paths i j d order l m in
    let tie : slice_cmp nat_cmp (get_or paths i d) (get_or paths j d) ≡ Equal = subst (λ p. slice_cmp nat_cmp (get_or paths i d) p ≡ Equal) e (tied_itself nat_list_cmp_total (get_or paths i d)) in
    Less≢Equal (sym less ∙ tie)

-- the paths of a tree in memory, in order
pub lists_paths : (fs : List File) (paths : List (List ℕ)) → InOrder paths → ((path : List ℕ) → Contains paths path ↔ Contains (paths_of fs) path) → ListsPaths fs paths
lists_paths fs paths order same =
    record {
      each = All-from_members (λ path. IsSome (file_at path fs)) paths (λ path h. has_file fs path ((same path).0 h));
      all = λ path h. (same path).1 (file_is_listed fs path h);
      once = differ paths order;
    }

Contains_cond : {X : Type 0} (b : Bool) (y : X) (ys : List X) (x : X) → Contains ys x → Contains (cond b (y ∷ ys) ys) x
Contains_cond true y ys x h = Contains-append_right (y ∷ []) ys x h
Contains_cond false y ys x h = h

Contains_filter : {X : Type 0} (p : X → Bool) (xs : List X) (x : X) → p x ≡ true → Contains xs x → Contains (filter p xs) x
Contains_filter p [] x t h = h
Contains_filter p (y ∷ ys) x t (zero, l, e) = subst (λ b. Contains (cond b (y ∷ filter p ys) (filter p ys)) x) (sym (ap p e ∙ t)) (0, omega arith, e)
Contains_filter p (y ∷ ys) x t (suc k, l, e) = Contains_cond (p y) y (filter p ys) x (Contains_filter p ys x t (k, omega arith, e))

Contains_cond_from : {X : Type 0} (b : Bool) (y : X) (ys : List X) (x : X) → Contains (cond b (y ∷ ys) ys) x → Contains (y ∷ ys) x
Contains_cond_from true y ys x h = h
Contains_cond_from false y ys x h = Contains-append_right (y ∷ []) ys x h

Contains-cons : {X : Type 0} (y : X) (xs ys : List X) (x : X) → (Contains xs x → Contains ys x) → Contains (y ∷ xs) x → Contains (y ∷ ys) x
Contains-cons y xs ys x h (zero, l, e) = (0, omega arith, e)
Contains-cons y xs ys x h (suc k, l, e) = Contains-append_right (y ∷ []) ys x (h (k, omega arith, e))

Contains_from_filter : {X : Type 0} (p : X → Bool) (xs : List X) (x : X) → Contains (filter p xs) x → Contains xs x
Contains_from_filter p [] x h = h
Contains_from_filter p (y ∷ ys) x h = Contains-cons y (filter p ys) ys x (Contains_from_filter p ys x) (Contains_cond_from (p y) y (filter p ys) x h)

-- the paths that were kept, in order
pub lists_kept : (tree : Option (List File)) (listed kept paths : List (List ℕ)) → IfSome tree (λ fs. ListsPaths fs listed) → kept ≡ filter is_kept listed → ((path : List ℕ) → Contains paths path ↔ Contains kept path) → InOrder paths → IfSome tree (λ fs. ListsKept fs paths)
lists_kept None listed kept paths lists e same order = tt
lists_kept (Some fs) listed kept paths lists e same order =
    let passed : (path : List ℕ) → Contains paths path → Contains (filter is_kept listed) path = λ path h. subst (λ ps. Contains ps path) e ((same path).0 h) in
    record {
      kept = All-from_members (λ path. IsTrue (is_kept path)) paths (λ path h. All-member (λ q. IsTrue (is_kept q)) (filter is_kept listed) path (filter_passes is_kept listed) (passed path h));
      each = All-from_members (λ path. IsSome (file_at path fs)) paths (λ path h. All-member (λ q. IsSome (file_at q fs)) listed path lists.each (Contains_from_filter is_kept listed path (passed path h)));
      all = λ path h k. (same path).1 (subst (λ ps. Contains ps path) (sym e) (Contains_filter is_kept listed path k (lists.all path h)));
      order = order;
    }

paths_of-with_bytes : (fs : List File) (paths : List (List ℕ)) → paths_of (with_bytes fs paths) ≡ paths
paths_of-with_bytes fs [] = refl
paths_of-with_bytes fs (p ∷ ps) = ap (λ qs. p ∷ qs) (paths_of-with_bytes fs ps)

is_value : (o : Option (List ℕ)) → IsSome o → o ≡ Some (unwrap_or o [])
is_value None h = cc
is_value (Some x) h = refl

All-map : {X Y : Type 0} (P : Y → Type 0) (f : X → Y) (xs : List X) → All (λ x. P (f x)) xs → All P (map f xs)
All-map P f [] h i d l = absurd (omega arith)
All-map P f (x ∷ xs) h zero d l = h 0 x (omega arith)
All-map P f (x ∷ xs) h (suc i) d l = All-map P f xs (λ j e m. h (suc j) e (omega arith)) i d (omega arith)

-- the files at the kept paths are the kept files
pub kept_at : (fs : List File) (paths : List (List ℕ)) → ListsKept fs paths → IsKept fs (with_bytes fs paths)
kept_at fs paths lists =
    record {
      each = All-map (λ (file : File). IsTrue (is_kept file.0) × (file_at file.0 fs ≡ Some file.1)) (λ path. (path, unwrap_or (file_at path fs) [])) paths (λ i d l. (lists.kept i d l, is_value (file_at (get_or paths i d) fs) (lists.each i d l)));
      all = λ path h k. rw (paths_of-with_bytes fs paths) (lists.all path h k);
      order = rw (paths_of-with_bytes fs paths) lists.order;
    }

length-with_bytes : (fs : List File) (paths : List (List ℕ)) → length (with_bytes fs paths) ≡ length paths
length-with_bytes fs paths = simp length-map

pub few_limit : (files : List File) (limit : Option TreeLimit) → length files ≤ files_most → size_limit 0 files ≡ limit → tree_limit files ≡ limit
unfolding tree_limit
few_limit files limit l e = ap (λ b. cond b (Some ManyFiles) (size_limit 0 files)) (le-ltb files_most (length files) l) ∙ e

many_limit : (files : List File) → files_most < length files → tree_limit files ≡ Some ManyFiles
unfolding tree_limit
many_limit files l = ap (λ b. cond b (Some ManyFiles) (size_limit 0 files)) (lt-ltb files_most (length files) l)

pub length-paths_of : (files : List File) → length (paths_of files) ≡ length files
length-paths_of files = simp length-map

pub length_of_map : (texts : List (String Global)) → length (map string_bytes texts) ≡ length texts
length_of_map texts = simp length-map

-- too many files are kept
pub many_kept : (tree : Option (List File)) (paths : List (List ℕ)) → IfSome tree (λ fs. ListsKept fs paths) → files_most < length paths → IfSome tree (λ fs. (kept : List File) × IsKept fs kept × (tree_limit kept ≡ Some ManyFiles))
many_kept None paths h l = tt
many_kept (Some fs) paths h l = (with_bytes fs paths, kept_at fs paths h, many_limit (with_bytes fs paths) (omega (arith, length-with_bytes fs paths)))

-- a kept file is too large, or the kept files are
pub size_kept : (tree : Option (List File)) (limit : Option TreeLimit) (paths : List (List ℕ)) → IfSome tree (λ fs. ListsKept fs paths) → length paths ≤ files_most → IfSome limit (λ l. IfSome tree (λ fs. size_limit 0 (with_bytes fs paths) ≡ Some l)) → IfSome limit (λ l. IfSome tree (λ fs. (kept : List File) × IsKept fs kept × (tree_limit kept ≡ Some l)))
size_kept tree None paths h n k = tt
size_kept None (Some l) paths h n k = tt
size_kept (Some fs) (Some l) paths h n k = (with_bytes fs paths, kept_at fs paths h, few_limit (with_bytes fs paths) (Some l) (omega (arith, length-with_bytes fs paths)) k)

-- the files that were read are the kept files
pub read_kept : (tree : Option (List File)) (files : List File) (paths : List (List ℕ)) → IfSome tree (λ fs. ListsKept fs paths) → IfSome tree (λ fs. files ≡ with_bytes fs paths) → IfSome tree (λ fs. IsKept fs files)
read_kept None files paths h e = tt
read_kept (Some fs) files paths h e = subst (IsKept fs) (sym e) (kept_at fs paths h)
