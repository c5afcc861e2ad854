-- None of the files is passed over where a tree is read.
use Rattle.std.proofs.Common.{◌≡◌, ℕ, zero, suc, ◌+◌, ◌/◌, ◌%◌, ◌≤◌, ◌==◌, true, false, List, [], ◌∷◌, Some, refl, sym, ◌∙◌, subst, arith}
use Rattle.std.proofs.lemmas.Bool.{ne_eqb}
use Rattle.std.proofs.lemmas.List.Elements.{All-cons, All-head, All-nil, All-tail}
use Rattle.std.proofs.lemmas.Map.Entries.{lookup_head, lookup_tail}
use Rattle.std.proofs.lemmas.Map.Views.{Contains-keys_from_lookup}
use Rattle.std.proofs.lemmas.Slice.Eq.{bytes_eq-Decides}
use Rattle.std.specs.Prelude.{All, IsTrue, bytes_eq, codes}
use Rattle.std.specs.declared.cmp.Ordering.TheVariants.{Equal, Less}
use Rattle.std.specs.Ordering.{nat_cmp}
use Rattle.std.specs.Cmp.Lexicographic.{slice_cmp, nat_list_cmp_total}
use Rattle.std.specs.List.{AllByRecursion}
use Rattle.std.specs.List.Sorted.{IsStrictlySortedBy}
use Rattle.std.proofs.lemmas.Cmp.{tied_itself}
use Rattle.edge_io.specs.Files.{File, InOrder, IsKept, file_at, folders_of, is_kept, paths_of}
use Rattle.generated_tree.proofs.Order.{in_order}
use Rattle.generated_tree.specs.Generated.{generated_files, generated_tests, test_path}

no_slash : (n : ℕ) → (48 + n == 47) ≡ false
no_slash n = ne_eqb (48 + n) 47 (λ e. omega (arith, e))

test_kept : (k : ℕ) → is_kept (test_path k) ≡ true
unfolding is_kept folders_of test_path
test_kept k = rw (no_slash (k / 1000), no_slash (k / 100 % 10), no_slash (k / 10 % 10), no_slash (k % 10)) refl

conftest_kept : is_kept (codes "conftest.py") ≡ true
unfolding is_kept folders_of
conftest_kept = refl

tests_kept : (seed j count : ℕ) → All (λ (f : File). IsTrue (is_kept f.0)) (generated_tests seed j count)
tests_kept seed j zero = All-nil (λ (f : File). IsTrue (is_kept f.0))
tests_kept seed j (suc count) = All-cons (λ (f : File). IsTrue (is_kept f.0)) _ (generated_tests seed (j + 1) count) (test_kept j) (tests_kept seed (j + 1) count)

-- files whose paths are in order are found by their paths
apart : (path other : List ℕ) → slice_cmp nat_cmp path other ≡ Less → bytes_eq other path ≡ false
apart path other less =
    elim (bytes_eq other path) as (λ b. bytes_eq other path ≡ b → b ≡ false) [
      | true ↦ λ e.
          let same : other ≡ path = (bytes_eq-Decides other path).0 e in
          let tie : slice_cmp nat_cmp path other ≡ Equal = subst (λ p. slice_cmp nat_cmp p other ≡ Equal) same (tied_itself nat_list_cmp_total other) in
          absurd (let z = sym less ∙ tie in cc)
      | false ↦ λ e. refl
    ] refl

abbrev Found : List File → File → Type 0
Found files f = file_at f.0 files ≡ Some f.1

still_found : (f : File) (all fs : List File) → AllByRecursion (λ y. slice_cmp nat_cmp f.0 y ≡ Less) (paths_of fs) → All (Found all) fs → All (Found (f ∷ all)) fs
still_found f all [] above found = All-nil (Found (f ∷ all))
still_found f all (x ∷ xs) above found =
    All-cons (Found (f ∷ all)) x xs (lookup_tail (bytes_eq x.0) f all (apart f.0 x.0 above.0) ∙ All-head (Found all) x xs found) (still_found f all xs above.1 (All-tail (Found all) x xs found))

all_found : (files : List File) → InOrder (paths_of files) → All (Found files) files
unfolding IsStrictlySortedBy
all_found [] order = All-nil (Found [])
all_found (f ∷ fs) order =
    All-cons (Found (f ∷ fs)) f fs (lookup_head (bytes_eq f.0) f fs ((bytes_eq-Decides f.0 f.0).1 refl)) (still_found f fs fs order.0 (all_found fs order.1))

pub all_kept : (seed count : ℕ) → count ≤ 10000 → IsKept (generated_files seed count) (generated_files seed count)
all_kept seed count few =
    let files = generated_files seed count in
    let order = in_order seed count few in
    let kept : All (λ (f : File). IsTrue (is_kept f.0)) files = All-cons (λ (f : File). IsTrue (is_kept f.0)) _ (generated_tests seed 0 count) conftest_kept (tests_kept seed 0 count) in
    let found = all_found files order in
    record {
      each = λ i d l. (kept i d l, found i d l);
      all = λ path h k. Contains-keys_from_lookup (λ p q e. (bytes_eq-Decides p q).0 e) path files h;
      order = order;
    }
