-- The paths of the files are in order.
use Rattle.std.proofs.Common.{◌≡◌, ℕ, zero, suc, ◌+◌, ◌/◌, ◌%◌, ◌<◌, ◌≤◌, true, false, cond, List, ◌∷◌, ◌++◌, refl, ap, ◌∙◌, arith, eqb}
use Rattle.std.proofs.lemmas.Bool.{eq-eqb, le-ltb, lt-ltb}
use Rattle.std.proofs.lemmas.Bool.Decides.{nat_tests}
use Rattle.std.specs.Prelude.{codes, nat_lt}
use Rattle.std.specs.declared.cmp.Ordering.{Ordering}
use Rattle.std.specs.declared.cmp.Ordering.TheVariants.{Equal, Greater, Less}
use Rattle.std.specs.Ordering.{nat_cmp, ordering_then}
use Rattle.std.specs.Cmp.Lexicographic.{slice_cmp}
use Rattle.std.specs.List.{AllByRecursion}
use Rattle.std.specs.List.Sorted.{IsStrictlySortedBy}
use Rattle.edge_io.specs.Files.{InOrder, paths_of}
use Rattle.generated_tree.specs.Generated.{four_digits, generated_files, generated_tests, test_path}

-- a byte that is less decides, and one that is equal does not
less_byte : (x y : ℕ) (later : Ordering) → x < y → ordering_then (nat_cmp x y) later ≡ Less
less_byte x y later lt = ap (λ b. ordering_then (cond b Less (cond (eqb x y) Equal Greater)) later) (lt-ltb x y lt)

same_byte : (x y : ℕ) (later : Ordering) → x ≡ y → ordering_then (nat_cmp x y) later ≡ later
same_byte x y later e =
    ap (λ b. ordering_then (cond b Less (cond (eqb x y) Equal Greater)) later) (le-ltb x y (omega (arith, e)))
    ∙ ap (λ b. ordering_then (cond b Equal Greater) later) (eq-eqb x y e)

abbrev compared : List ℕ → List ℕ → Ordering
compared xs ys = slice_cmp nat_cmp xs ys

-- whether a number is below another
fork : {P : Type 0} (x y : ℕ) → (x < y → P) → (y ≤ x → P) → P
fork {P} x y below above = elim (nat_lt x y) as (λ b. nat_lt x y ≡ b → P) [ true ↦ λ e. below (grind (arith, nat_tests)) | false ↦ λ e. above (grind (arith, nat_tests)) ] refl

module _ (k m : ℕ) (behind after : List ℕ) (lt : k < m) (few : m < 10000) where
  by_ones : k / 10 ≡ m / 10 → compared ((48 + k % 10) ∷ behind) ((48 + m % 10) ∷ after) ≡ Less
  by_ones e = less_byte (48 + k % 10) (48 + m % 10) (compared behind after) (omega (arith, lt, e))

  by_tens : k / 100 ≡ m / 100 → compared ((48 + k / 10 % 10) ∷ (48 + k % 10) ∷ behind) ((48 + m / 10 % 10) ∷ (48 + m % 10) ∷ after) ≡ Less
  by_tens e =
      fork (k / 10 % 10) (m / 10 % 10)
      (λ l. less_byte (48 + k / 10 % 10) (48 + m / 10 % 10) (compared ((48 + k % 10) ∷ behind) ((48 + m % 10) ∷ after)) (omega (arith, l)))
      (λ g. let same : k / 10 ≡ m / 10 = omega (arith, lt, e, g) in
      same_byte (48 + k / 10 % 10) (48 + m / 10 % 10) (compared ((48 + k % 10) ∷ behind) ((48 + m % 10) ∷ after)) (ap (λ n. 48 + n % 10) same) ∙ by_ones same)

  by_hundreds : k / 1000 ≡ m / 1000 → compared ((48 + k / 100 % 10) ∷ (48 + k / 10 % 10) ∷ (48 + k % 10) ∷ behind) ((48 + m / 100 % 10) ∷ (48 + m / 10 % 10) ∷ (48 + m % 10) ∷ after) ≡ Less
  by_hundreds e =
      let later = compared ((48 + k / 10 % 10) ∷ (48 + k % 10) ∷ behind) ((48 + m / 10 % 10) ∷ (48 + m % 10) ∷ after) in
      fork (k / 100 % 10) (m / 100 % 10)
      (λ l. less_byte (48 + k / 100 % 10) (48 + m / 100 % 10) later (omega (arith, l)))
      (λ g. let same : k / 100 ≡ m / 100 = omega (arith, lt, e, g) in
      same_byte (48 + k / 100 % 10) (48 + m / 100 % 10) later (ap (λ n. 48 + n % 10) same) ∙ by_tens same)

  by_digits : compared (four_digits k ++ behind) (four_digits m ++ after) ≡ Less
  by_digits =
      let later = compared ((48 + k / 100 % 10) ∷ (48 + k / 10 % 10) ∷ (48 + k % 10) ∷ behind) ((48 + m / 100 % 10) ∷ (48 + m / 10 % 10) ∷ (48 + m % 10) ∷ after) in
      fork (k / 1000) (m / 1000)
      (λ l. less_byte (48 + k / 1000) (48 + m / 1000) later (omega (arith, l)))
      (λ g. let same : k / 1000 ≡ m / 1000 = omega (arith, lt, g) in
      same_byte (48 + k / 1000) (48 + m / 1000) later (ap (λ n. 48 + n) same) ∙ by_hundreds same)

path_less : (k m : ℕ) → k < m → m < 10000 → compared (test_path k) (test_path m) ≡ Less
unfolding test_path
path_less k m lt few = by_digits k m (codes ".py") (codes ".py") lt few

conftest_less : (m : ℕ) → compared (codes "conftest.py") (test_path m) ≡ Less
unfolding test_path
conftest_less m = refl

abbrev AreAbove : List ℕ → List (List ℕ) → Type 0
AreAbove path paths = AllByRecursion (λ y. compared path y ≡ Less) paths

all_above : (seed k j count : ℕ) → k < j → j + count ≤ 10000 → AreAbove (test_path k) (paths_of (generated_tests seed j count))
all_above seed k j zero lt few = tt
all_above seed k j (suc count) lt few = (path_less k j lt (omega (arith, few)), all_above seed k (j + 1) count (omega (arith, lt)) (omega (arith, few)))

all_behind : (seed j count : ℕ) → AreAbove (codes "conftest.py") (paths_of (generated_tests seed j count))
all_behind seed j zero = tt
all_behind seed j (suc count) = (conftest_less j, all_behind seed (j + 1) count)

tests_in_order : (seed j count : ℕ) → j + count ≤ 10000 → InOrder (paths_of (generated_tests seed j count))
unfolding IsStrictlySortedBy
tests_in_order seed j zero few = tt
tests_in_order seed j (suc count) few = (all_above seed j (j + 1) count (omega arith) (omega (arith, few)), tests_in_order seed (j + 1) count (omega (arith, few)))

pub in_order : (seed count : ℕ) → count ≤ 10000 → InOrder (paths_of (generated_files seed count))
unfolding IsStrictlySortedBy
in_order seed count few = (all_behind seed 0 count, tests_in_order seed 0 count (omega (arith, few)))
