-- Numbers in order are the same numbers, each as often.
use Rattle.std.proofs.Common.{◌≡◌, ℕ, ◌+◌, ◌≤◌, Bool, true, false, cond, List, [], ◌∷◌, length, map, refl, sym, subst, ap, ◌∙◌, arith, eqb-true, eq-eqb}
use Rattle.std.specs.Prelude.{◌==◌, ◌||◌, IsPermutation}
use Rattle.std.specs.List.{range_with_len, sum_by}
use Rattle.std.proofs.lemmas.List.{length-map}
use Rattle.std.proofs.lemmas.List.FromFn.{fill_by_all}
use Rattle.std.proofs.lemmas.List.Sorted.{IsPermutation-map, length_permutation, sum_by-IsPermutation}
use Rattle.std.proofs.lemmas.List.Sums.{sum_by-cons}
use Rattle.collect_items.proofs.collect_rows_lemmas.param_rows_lemmas.Regrouped.{regrouped_permutes}
use Rattle.collect_items.specs.Chosen.{keys_numbered, number_at, ordered}
use Rattle.collect_items.specs.fixture_definitions.collect_params.param_rows.Grouping.{regrouped}
use Rattle.collect_items.specs.fixture_definitions.collect_params.param_rows.declared.keys.ItemKeys.{ItemKeys}
use Rattle.collect_words.specs.Files.{includes_number}
use Rattle.collect_tree.proofs.Once.{Once, or_none}

all_at : (numbers : List ℕ) → numbers ≡ map (number_at numbers) (range_with_len 0 (length numbers))
all_at numbers = fill_by_all (number_at numbers) numbers (length numbers) 0 refl (λ k l. refl)

ordered_permutes : (keys : List ItemKeys) (numbers : List ℕ) → IsPermutation numbers (ordered keys numbers)
unfolding ordered
ordered_permutes keys numbers =
    let items = map (keys_numbered keys) numbers in
    let places : IsPermutation (range_with_len 0 (length numbers)) (regrouped items) =
    subst (λ (n : ℕ). IsPermutation (range_with_len 0 n) (regrouped items)) (length-map numbers (keys_numbered keys)) (regrouped_permutes items) in
    subst (λ (ns : List ℕ). IsPermutation ns (map (number_at numbers) (regrouped items))) (sym (all_at numbers))
    (IsPermutation-map (number_at numbers) (range_with_len 0 (length numbers)) (regrouped items) places)

pub few_ordered : (keys : List ItemKeys) (numbers : List ℕ) → length (ordered keys numbers) ≡ length numbers
few_ordered keys numbers = length_permutation numbers (ordered keys numbers) (ordered_permutes keys numbers)

-- how often a number stands there
abbrev hit : ℕ → ℕ → ℕ
hit m k = cond (k == m) 1 0

abbrev hits : ℕ → List ℕ → ℕ
hits m ns = sum_by (hit m) ns

hits-cons : (m k : ℕ) (ns : List ℕ) → hits m (k ∷ ns) ≡ hit m k + hits m ns
hits-cons m k ns = sum_by-cons (hit m) k ns

hit_other : (m k : ℕ) → (k == m) ≡ false → hit m k ≡ 0
hit_other m k e = ap (λ b. cond b 1 0) e

hit_same : (m k : ℕ) → (k == m) ≡ true → hit m k ≡ 1
hit_same m k e = ap (λ b. cond b 1 0) e

none_hits : (m : ℕ) (ns : List ℕ) → includes_number m ns ≡ false → hits m ns ≡ 0
none_hits m [] h = refl
none_hits m (k ∷ ns) h =
    let both = or_none (k == m) (includes_number m ns) h in
    omega (arith, hits-cons m k ns, hit_other m k both.0, none_hits m ns both.1)

by_hit : (m k : ℕ) (ns : List ℕ) (b : Bool) → (k == m) ≡ b → includes_number k ns ≡ false → hits m ns ≤ 1 → hits m (k ∷ ns) ≤ 1
by_hit m k ns true e h l =
    let none : hits m ns ≡ 0 = none_hits m ns (subst (λ (x : ℕ). includes_number x ns ≡ false) (eqb-true k m e) h) in
    omega (arith, hits-cons m k ns, hit_same m k e, none)
by_hit m k ns false e h l = omega (arith, hits-cons m k ns, hit_other m k e, l)

once_hits : (m : ℕ) (ns : List ℕ) → Once ns → hits m ns ≤ 1
once_hits m [] o = omega arith
once_hits m (k ∷ ns) o = by_hit m k ns (k == m) refl o.0 (once_hits m ns o.1)

absent_by : (m k : ℕ) (ns : List ℕ) (b : Bool) → (k == m) ≡ b → hits m (k ∷ ns) ≡ 0 → ((hits m ns ≡ 0) → includes_number m ns ≡ false) → includes_number m (k ∷ ns) ≡ false
absent_by m k ns true e z f = absurd (omega (arith, hits-cons m k ns, hit_same m k e, z))
absent_by m k ns false e z f = ap (λ b. b || includes_number m ns) e ∙ f (omega (arith, hits-cons m k ns, hit_other m k e, z))

absent : (m : ℕ) (ns : List ℕ) → hits m ns ≡ 0 → includes_number m ns ≡ false
absent m [] z = refl
absent m (k ∷ ns) z = absent_by m k ns (k == m) refl z (absent m ns)

hits_once : (ns : List ℕ) → ((m : ℕ) → hits m ns ≤ 1) → Once ns
hits_once [] l = tt
hits_once (k ∷ ns) l = (
  absent k ns (omega (arith, hits-cons k k ns, hit_same k k (eq-eqb k k refl), l k)),
  hits_once ns (λ m. omega (arith, hits-cons m k ns, l m)),
)

pub once_ordered : (keys : List ItemKeys) (numbers : List ℕ) → Once numbers → Once (ordered keys numbers)
once_ordered keys numbers o =
    hits_once (ordered keys numbers)
    (λ m. subst (λ (n : ℕ). n ≤ 1) (sym (sum_by-IsPermutation (hit m) numbers (ordered keys numbers) (ordered_permutes keys numbers))) (once_hits m numbers o))
