-- The one group of a session.
use Rattle.std.proofs.Common.{◌≡◌, ◌<◌, ◌≤◌, ℕ, suc, List, [], ◌∷◌, All, length, refl, sym, subst, arith}
use Rattle.journal_tests.specs.Plans.{IsOnlyGroup}
use Rattle.report_parts.specs.Limits.{most_items}
use Rattle.runtest_loop.specs.Fed.{numbers_at, numbers_in_range, unfed}
use Rattle.share_files.specs.Deal.{Every}

every : {A : Type 0} (P : A → Type 0) (xs : List A) → All P xs → Every P xs
every P [] h = tt
every P (x ∷ xs) h = (h 0 x (omega arith), every P xs (λ k d l. h (suc k) d (omega arith)))

pub in_range : (count : ℕ) (ns : List ℕ) (groups : List (List ℕ)) → groups ≡ ns ∷ [] → All (λ n. n < count) ns → numbers_in_range count groups
in_range count ns groups e within = subst (numbers_in_range count) (sym e) (every (λ n. n < count) ns within, tt)

pub is_one : (ns : List ℕ) (groups : List (List ℕ)) → groups ≡ ns ∷ [] → IsOnlyGroup groups
is_one ns groups e = subst IsOnlyGroup (sym e) refl

pub has_few : (ns : List ℕ) (groups : List (List ℕ)) → groups ≡ ns ∷ [] → length ns ≤ most_items → length (numbers_at groups 0) ≤ most_items
has_few ns groups e few = subst (λ gs. length (numbers_at gs 0) ≤ most_items) (sym e) few

pub few_unfed : (groups : List (List ℕ)) → IsOnlyGroup groups → length (numbers_at groups 0) ≤ most_items → unfed groups [] ≤ 131072
few_unfed groups one few = subst (λ gs. unfed gs [] ≤ 131072) (sym one) (omega (arith, few))

pub one_fed : (groups : List (List ℕ)) → IsOnlyGroup groups → 1 ≤ length groups
one_fed groups one = subst (λ gs. 1 ≤ length gs) (sym one) (omega arith)
