-- The places of items in their order are all places, each once.
use Rattle.std.proofs.Common.{◌≡◌, ◌<◌, ◌≤◌, ℕ, map, take, List, [], ◌∷◌, length, refl, ap, sym, subst, ◌∙◌, ◌==◌, Decides, get_or, ◌+◌, ◌++◌, arith}
use Rattle.std.specs.Prelude.{IsPermutation}
use Rattle.std.specs.List.{range_with_len, position_or_len}
use Rattle.std.specs.Cmp.Lexicographic.{pointwise}
use Rattle.std.proofs.lemmas.Bool.{and_parts, and_from, eqb-true, eq-eqb}
use Rattle.std.proofs.lemmas.List.{map-id, take_more}
use Rattle.std.proofs.lemmas.List.FromFn.{map-range_with_len_more}
use Rattle.std.proofs.lemmas.List.Sorted.{IsPermutation-trans}
use Rattle.std.proofs.lemmas.Slice.Eq.{slice_eq-Decides}
use Rattle.indexmap.specs.IndexSet.{insert_key}
use Rattle.session_types.specs.declared.scope.Scope.{Scope}
use Rattle.session_types.specs.declared.scope.Scope.TheVariants.{Session, Module, Class}
use Rattle.param_rows.specs.declared.keys.ItemKeys.{ItemKeys}
use Rattle.param_rows.specs.Grouping.{same_pair, same_key, firsts, keys_of, grouped, are_neighbours, pass, regrouped}
use Rattle.param_rows.specs.Gathering.{groups_of, with_member}
use Rattle.param_rows.proofs.Gathered.{keys_with, number_within, groups_with}
use Rattle.param_rows.proofs.Shuffled.{grouped_permutes, stretches_permute}

same_pair-Decides : (one other : ℕ × ℕ) → Decides (same_pair one other) (one ≡ other)
same_pair-Decides one other = (
  λ e. let both = and_parts (one.0 == other.0) (one.1 == other.1) e in pairs one other (eqb-true one.0 other.0 both.0) (eqb-true one.1 other.1 both.1),
  λ e. and_from (one.0 == other.0) (one.1 == other.1) (eq-eqb one.0 other.0 (ap (λ p. p.0) e)) (eq-eqb one.1 other.1 (ap (λ p. p.1) e)),
)
  where
    pairs : (p q : ℕ × ℕ) → p.0 ≡ q.0 → p.1 ≡ q.1 → p ≡ q
    pairs p q e f = subst (λ (b : ℕ). ◌≡◌ {A = ℕ × ℕ} p (q.0, b)) f (subst (λ (a : ℕ). ◌≡◌ {A = ℕ × ℕ} p (a, p.1)) e refl)

same_key-Decides : (keys : List (List (ℕ × ℕ))) (one other : ℕ) → Decides (same_key keys one other) (get_or keys one [] ≡ get_or keys other [])
same_key-Decides keys one other = slice_eq-Decides same_pair-Decides (get_or keys one []) (get_or keys other []) (same_key keys one other) refl

pass_permutes : (scope : Scope) (items : List ItemKeys) (order : List ℕ) → IsPermutation order (pass scope items order)
pass_permutes scope items order =
    let keys = keys_of scope items in
    stretches_permute (are_neighbours scope items) (grouped (same_key keys))
    (λ xs. grouped_permutes (same_key keys) (λ place. get_or keys place []) (λ one other. same_key-Decides keys one other) xs) order

pub regrouped_permutes : (items : List ItemKeys) → IsPermutation (range_with_len 0 (length items)) (regrouped items)
regrouped_permutes items =
    let all = range_with_len 0 (length items) in
    let one = pass Session items all in
    let two = pass Module items one in
    IsPermutation-trans all two (pass Class items two)
    (IsPermutation-trans all one two (pass_permutes Session items all) (pass_permutes Module items one))
    (pass_permutes Class items two)

-- one place more
pub places_more : (n : ℕ) → range_with_len 0 (n + 1) ≡ range_with_len 0 n ++ n ∷ []
places_more n =
    sym (map-id (range_with_len 0 (n + 1))) ∙ map-range_with_len_more (λ (x : ℕ). x) 0 n n (omega arith)
    ∙ ap (λ xs. xs ++ n ∷ []) (map-id (range_with_len 0 n))

pairs-Decides : (some others : List (ℕ × ℕ)) → Decides (pointwise same_pair some others) (some ≡ others)
pairs-Decides some others = slice_eq-Decides same_pair-Decides some others (pointwise same_pair some others) refl

module _ (keys : List (List (ℕ × ℕ))) (order : List ℕ) (i place : ℕ) (key : List (ℕ × ℕ)) (numbers : List (List (ℕ × ℕ))) (groups : List (List ℕ)) where
  abbrev key_of_place : ℕ → List (ℕ × ℕ)
  key_of_place p = get_or keys p []

  abbrev keys_so_far : List ℕ → List (List (ℕ × ℕ))
  keys_so_far xs = map key_of_place (firsts (same_key keys) [] xs)

  -- the number of a key is that of its group, or the next
  pub gather_within : key ≡ get_or keys place [] → numbers ≡ keys_so_far (take i order) → groups ≡ groups_of (same_key keys) (take i order) → position_or_len (pointwise same_pair key) numbers ≤ length groups
  gather_within has known grouped_so =
      subst (λ (k : List (ℕ × ℕ)). position_or_len (pointwise same_pair k) numbers ≤ length groups) (sym has)
      (subst (λ (ks : List (List (ℕ × ℕ))). position_or_len (pointwise same_pair (key_of_place place)) ks ≤ length groups) (sym known)
      (subst (λ (gs : List (List ℕ)). position_or_len (pointwise same_pair (key_of_place place)) (keys_so_far (take i order)) ≤ length gs) (sym grouped_so)
      (number_within (pointwise same_pair) key_of_place pairs-Decides (take i order) place)))

  -- one place more
  pub gather_more : (more : List (List (ℕ × ℕ))) (larger : List (List ℕ)) → i < length order → (d : ℕ) → place ≡ get_or order i d → key ≡ get_or keys place [] → numbers ≡ keys_so_far (take i order) → groups ≡ groups_of (same_key keys) (take i order)
      → more ≡ insert_key (pointwise same_pair) numbers key → larger ≡ with_member (position_or_len (pointwise same_pair key) numbers) place groups
      → (more ≡ keys_so_far (take (i + 1) order)) × (larger ≡ groups_of (same_key keys) (take (i + 1) order))
  gather_more more larger lt d here has known grouped_so inserted put =
      let left : take (i + 1) order ≡ take i order ++ place ∷ [] = take_more order i d lt ∙ ap (λ x. take i order ++ x ∷ []) (sym here) in (
        inserted ∙ ap (λ k. insert_key (pointwise same_pair) numbers k) has
            ∙ ap (λ ks. insert_key (pointwise same_pair) ks (key_of_place place)) known
            ∙ keys_with (pointwise same_pair) key_of_place pairs-Decides (take i order) place ∙ ap keys_so_far (sym left),
        put ∙ ap (λ k. with_member (position_or_len (pointwise same_pair k) numbers) place groups) has
            ∙ ap (λ ks. with_member (position_or_len (pointwise same_pair (key_of_place place)) ks) place groups) known
            ∙ ap (λ gs. with_member (position_or_len (pointwise same_pair (key_of_place place)) (keys_so_far (take i order))) place gs) grouped_so
            ∙ groups_with (pointwise same_pair) key_of_place pairs-Decides (take i order) place ∙ ap (groups_of (same_key keys)) (sym left),
      )
