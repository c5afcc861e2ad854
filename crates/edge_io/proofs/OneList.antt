use Rattle.std.proofs.Common.{◌≡◌, ℕ, List, [], ◌∷◌, Bool, true, false, Option, Some, refl, sym, ap, ◌∙◌, zero, suc, arith, subst}
use Rattle.std.specs.Prelude.{IsSome, IsTrue, All, Contains, unwrap_or}
use Rattle.std.specs.Ordering.{nat_cmp, eq_by_cmp}
use Rattle.std.specs.Cmp.Lexicographic.{slice_cmp, nat_list_cmp_total}
use Rattle.std.specs.List.{list_any}
use Rattle.std.specs.BTreeSet.{BTreeSet}
use Rattle.std.proofs.lemmas.Cmp.{eq_by_cmp_equiv}
use Rattle.std.proofs.lemmas.List.Elements.{All-head, All-tail}
use Rattle.std.proofs.lemmas.Map.Lookups.{btree_set_from_contains, exact_bytes}
use Rattle.std.proofs.lemmas.Map.Views.{Contains-from_any, list_any-from_Contains, tells_apart}
use Rattle.edge_io.specs.Files.{File, InOrder, IsKept, file_at, is_kept, paths_of, with_bytes}
use Rattle.edge_io.proofs.KeptFiles.{All-member}

same_bool : (a b : Bool) → (a ≡ true → b ≡ true) → (b ≡ true → a ≡ true) → a ≡ b
same_bool true b h k = sym (h refl)
same_bool false true h k = k refl
same_bool false false h k = refl

abbrev same : List ℕ → List ℕ → Bool
same = eq_by_cmp (slice_cmp nat_cmp)

-- lists in order with the same paths
same_paths : (ps qs : List (List ℕ)) → InOrder ps → InOrder qs → ((p : List ℕ) → Contains ps p → Contains qs p) → ((p : List ℕ) → Contains qs p → Contains ps p) → ps ≡ qs
same_paths ps qs o u to from =
    let laws = eq_by_cmp_equiv nat_list_cmp_total in
    btree_set_from_contains nat_list_cmp_total (let s : BTreeSet (List ℕ) = record { keys = ps } in s) (let t : BTreeSet (List ℕ) = record { keys = qs } in t) o u
    (λ p. same_bool (list_any (same p) ps) (list_any (same p) qs)
    (λ h. list_any-from_Contains laws p qs (to p (Contains-from_any (tells_apart exact_bytes) p ps h)))
    (λ h. list_any-from_Contains laws p ps (from p (Contains-from_any (tells_apart exact_bytes) p qs h))))
    exact_bytes

at_paths : (tree files : List File) → All (λ file. file_at file.0 tree ≡ Some file.1) files → files ≡ with_bytes tree (paths_of files)
at_paths tree [] h = refl
at_paths tree (file ∷ files) h =
    let P : File → Type 0 = λ f. file_at f.0 tree ≡ Some f.1 in
    sym (ap (λ o. (file.0, unwrap_or o []) ∷ with_bytes tree (paths_of files)) (All-head P file files h) ∙ ap (λ fs. file ∷ fs) (sym (at_paths tree files (All-tail P file files h))))

seconds : (tree files : List File) → IsKept tree files → All (λ file. file_at file.0 tree ≡ Some file.1) files
seconds tree files is i d l = (is.each i d l).1

path_member : (files : List File) (path : List ℕ) → Contains (paths_of files) path → (file : File) × Contains files file × (file.0 ≡ path)
path_member [] path (i, l, e) = absurd (omega arith)
path_member (f ∷ fs) path (zero, l, e) = (f, (0, omega arith, refl), e)
path_member (f ∷ fs) path (suc i, l, e) =
    let rest = path_member fs path (i, omega arith, e) in
    (rest.0, (suc rest.1.0, omega (arith, rest.1.1), rest.1.2), rest.2)

among : (tree files others : List File) → IsKept tree files → IsKept tree others → (path : List ℕ) → Contains (paths_of files) path → Contains (paths_of others) path
among tree files others a b path h =
    let member = path_member files path h in
    let facts : IsTrue (is_kept member.0.0) × (file_at member.0.0 tree ≡ Some member.0.1) = All-member (λ (f : File). IsTrue (is_kept f.0) × (file_at f.0 tree ≡ Some f.1)) files member.0 a.each member.1 in
    let found : IsSome (file_at path tree) = subst (λ p. IsSome (file_at p tree)) member.2 (some_value _ _ facts.1) in
    b.all path found (subst (λ p. IsTrue (is_kept p)) member.2 facts.0)
  where
    some_value : (o : Option (List ℕ)) (x : List ℕ) → o ≡ Some x → IsSome o
    some_value o x e = subst IsSome (sym e) refl

-- a tree has one list of kept files
pub one_list : (tree files others : List File) → IsKept tree files → IsKept tree others → files ≡ others
one_list tree files others a b =
    let paths = same_paths (paths_of files) (paths_of others) a.order b.order (among tree files others a b) (among tree others files b a) in
    at_paths tree files (seconds tree files a) ∙ (ap (with_bytes tree) paths ∙ sym (at_paths tree others (seconds tree others b)))
