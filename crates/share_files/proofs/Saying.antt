-- What the rule says.
use Rattle.std.proofs.Common.{◌≡◌, ℕ, zero, suc, ◌+◌, ◌<◌, ◌≤◌, List, [], ◌∷◌, length, slice_index, inl, inr, refl, sym, ap, ◌∙◌, subst, arith, le_refl}
use mathlib.Core.Option.{some}
use lib.ListN.{get_elem?}
use Rattle.std.proofs.lemmas.Bool.{cases_eq}
use Rattle.atomic_table.specs.Table.{State}
use Rattle.share_files.specs.declared.rule.Range.{Range}
use Rattle.share_files.specs.declared.rule.Counts.{Counts}
use Rattle.share_files.specs.Deal.{drawn, lists_from, RisesFrom, Every, times, times_in}
use Rattle.share_files.specs.Rule.{workers_from, covers, past, range_sum, SharingInvariant, OnlyLast, Says}
use Rattle.share_files.proofs.Dealt.{drawn_same, drawn_else, times_same, times_else, miss, none_below, none_above, lists_rise}
use Rattle.share_files.proofs.Views.{total_same, lt_or_le, past_at}
use Rattle.share_files.proofs.Kept.{word_bound}

-- a draw gives its number to whoever drew, and to nobody else
given_to : (k c next who : ℕ) (ds : List ℕ) → times_in next (lists_from k c next (who ∷ ds)) ≡ times who (workers_from k c) + times_in next (lists_from k c (next + 1) ds)
given_to k zero next who ds = refl
given_to k (suc c) next who ds = elim (cases_eq who k) [
  | inl e ↦ omega (arith, ap (times next) (drawn_same k next who ds e), times_same next next (drawn k (next + 1) ds) refl, times_same who k (workers_from (k + 1) c) (sym e), given_to (k + 1) c next who ds)
  | inr ne ↦ omega (arith, ap (times next) (drawn_else k next who ds ne), times_else who k (workers_from (k + 1) c) (λ e. ne (sym e)), given_to (k + 1) c next who ds)
]

-- each number that was drawn stands where the worker that drew it stands
drawn_by : (n x next : ℕ) (ds : List ℕ) → Every (λ k. k < n) ds → next ≤ x → x < next + length ds
    → (w : ℕ) × (w < n) × ((k c : ℕ) → times_in x (lists_from k c next ds) ≡ times w (workers_from k c))
drawn_by n x next [] who le lt = absurd (omega (arith, le, lt))
drawn_by n x next (d ∷ ds) who le lt = elim (cases_eq next x) [
  | inl e ↦ (d, who.0, λ k c. subst (λ y. times_in y (lists_from k c next (d ∷ ds)) ≡ times d (workers_from k c)) e (omega (arith, given_to k c next d ds, none_below next k c (next + 1) ds (omega arith))))
  | inr ne ↦ (let h = drawn_by n x (next + 1) ds who.1 (omega (arith, le, ne)) (omega (arith, lt)) in (h.0, h.1, λ k c. miss x k c next d ds ne ∙ h.2 k c))
]

only_last : (groups low : ℕ) (xs : List ℕ) → RisesFrom low xs → past groups xs ≤ 1 → OnlyLast groups xs
only_last groups low [] r few = tt
only_last groups low (x ∷ []) r few = tt
only_last groups low (x ∷ y ∷ ys) r few = elim (lt_or_le x groups) [
  | inl lt ↦ (lt, only_last groups (x + 1) (y ∷ ys) r.1 (omega (arith, few)))
  | inr le ↦ absurd (omega (arith, few, past_at groups x le, past_at groups y (omega (arith, le, r.1.0))))
]

only_lasts : (groups low : ℕ) (ls : List (List ℕ)) → Every (RisesFrom low) ls → Every (λ l. past groups l ≤ 1) ls → Every (OnlyLast groups) ls
only_lasts groups low [] r few = tt
only_lasts groups low (l ∷ ls) r few = (only_last groups low l r.0 few.0, only_lasts groups low ls r.1 few.1)

pub kept_says : (c : Counts) (s : State (Unit {0}) Range) → SharingInvariant c s → Says c (slice_index s.words 0) s.views
kept_says c s kept = subst (λ n. Says c n s.views) (sym found) record {
  ranges = kept.each;
  no_other = kept.no_other;
  word = (omega arith, word_bound c s kept);
  rising = rising;
  each = λ x le lt. (let w = drawn_by c.workers x c.workers kept.draws kept.who le lt in same x w.0 w.2 ∙ kept.each w.0 w.1);
  none = λ x or. total_same (λ v. times_in x v.lists) (λ _. 0) s.views (λ at v e. ap (times_in x) (kept.views at v e).lists ∙ elim or [
    | inl lt ↦ none_below x v.first (length v.lists) c.workers kept.draws lt
    | inr le ↦ none_above x v.first (length v.lists) c.workers kept.draws le
  ]) ∙ nothing s.views;
  last = λ at v e. only_lasts c.groups c.workers v.lists (rising at v e) (kept.views at v e).last;
} where
  found : slice_index s.words 0 ≡ c.workers + length kept.draws
  found = ap (λ (ws : List ℕ). slice_index ws 0) kept.word

  rising : (at : ℕ) (v : Range) → get_elem? s.views at ≡ some v → Every (RisesFrom c.workers) v.lists
  rising at v e = subst (Every (RisesFrom c.workers)) (sym (kept.views at v e).lists) (lists_rise c.workers v.first (length v.lists) c.workers kept.draws (le_refl _))

  same : (x w : ℕ) → ((k n : ℕ) → times_in x (lists_from k n c.workers kept.draws) ≡ times w (workers_from k n)) → range_sum (λ v. times_in x v.lists) s.views ≡ range_sum (covers w) s.views
  same x w h = total_same (λ v. times_in x v.lists) (covers w) s.views (λ at v e. ap (times_in x) (kept.views at v e).lists ∙ h v.first (length v.lists))

  nothing : (views : List Range) → range_sum (λ _. 0) views ≡ 0
  nothing [] = refl
  nothing (v ∷ vs) = omega (arith, nothing vs)
