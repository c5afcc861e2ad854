-- Each step keeps the rule.
use Rattle.std.proofs.Common.{◌≡◌, ◌≢◌, ⊎_elim, ℕ, ◌+◌, ◌%◌, ◌^◌, ◌/◌, ◌<◌, ◌≤◌, List, [], ◌∷◌, ◌++◌, length, set, take, drop, slice_index, inl, inr, refl, sym, ap, ◌∙◌, subst, ap₂, arith, length-append, mod-eq_of_lt}
use mathlib.Core.Option.{Option, some, none, some-ne-none}
use lib.ListN.{get_elem?, take-append-drop, length-take, length-replicate}
use Rattle.atomic_table.specs.Table.{State, Me, Act, keeps, step, stepped, carried_after, Valid, Allows, Splits, Joins}
use Rattle.atomic_table.proofs.Lists.{at_set, at_snoc}
use Rattle.share_files.specs.declared.rule.Range.{Range}
use Rattle.share_files.specs.declared.rule.Counts.{Counts}
use Rattle.share_files.specs.Deal.{drawn, lists_from, RisesFrom, Every, times}
use Rattle.share_files.specs.Rule.{range, workers_from, covers, workers_in, past, all_past, range_sum, IsView, SharingInvariant, all_workers, Draws, lower_half, upper_half, joined_range, nobody}
use Rattle.share_files.proofs.Dealt.{times_same, drawn-here, lists_from-other, lists_from-append, length-lists_from, lists_from-none, lists_rise}
use Rattle.share_files.proofs.Views.{lt_or_le, total-set, total_one, total_two, total_le, total_cut, total_joined, covers_cut, covers_in, covers_above, append_left, append_right, half_min, none_past, past-append, past_in-append, past_few, past_below, past_at, Every-append, Every-left, Every-right}

-- the word never wraps
pub word_bound : {S : Type 0} (c : Counts) (s : State S Range) (kept : SharingInvariant c s) → c.workers + length kept.draws ≤ c.groups + c.workers
word_bound c s kept = omega (arith, kept.bound, total_le (all_past c.groups) workers_in s.views (λ at v e. past_few c.groups v.lists (kept.views at v e).last), kept.all)

module _ {S : Type 0} (c : Counts) (s : State S Range) (kept : SharingInvariant c s) (id k : ℕ) (l : List ℕ) (here : get_elem? s.views id ≡ some (range k (l ∷ []))) (none : past c.groups l ≡ 0) where
  abbrev number : ℕ
  number = c.workers + length kept.draws

  abbrev after : Range
  after = range k ((l ++ number ∷ []) ∷ [])

  covered : covers k (range k (l ∷ [])) ≡ 1
  covered = times_same k k [] refl

  pub is_worker : k < c.workers
  is_worker = elim (lt_or_le k c.workers) [
    | inl lt ↦ lt
    | inr le ↦ absurd (omega (arith, kept.no_other k le, total_one (covers k) s.views id _ here, covered))
  ]

  is_list : l ≡ drawn k c.workers kept.draws
  is_list = ap head (kept.views id (range k (l ∷ [])) here).lists where
    head : List (List ℕ) → List ℕ
    head [] = []
    head (x ∷ xs) = x

  last_few : past c.groups (l ++ number ∷ []) ≤ 1
  last_few = elim (lt_or_le number c.groups) [
    | inl lt ↦ omega (arith, past-append c.groups l (number ∷ []), none, past_below c.groups number lt)
    | inr le ↦ omega (arith, past-append c.groups l (number ∷ []), none, past_at c.groups number le)
  ]

  own : IsView c (kept.draws ++ k ∷ []) after
  own = record {
    lists = ap (λ (x : List ℕ). x ∷ []) (ap (λ (x : List ℕ). x ++ number ∷ []) is_list ∙ sym (drawn-here k c.workers kept.draws));
    last = (last_few, tt);
  }

  other : (at : ℕ) (v : Range) → at ≢ id → get_elem? s.views at ≡ some v → IsView c (kept.draws ++ k ∷ []) v
  other at v ne e =
      let old = kept.views at v e in
      let out : covers k v ≡ 0 = omega (arith, total_two (covers k) s.views id at (range k (l ∷ [])) v here e ne, covered, kept.each k is_worker) in
      record { lists = old.lists ∙ sym (lists_from-other v.first (length v.lists) c.workers k kept.draws out); last = old.last }

  bound_after : number + 1 ≤ c.groups + range_sum (all_past c.groups) (set s.views id after)
  bound_after =
      let sum = total-set (all_past c.groups) s.views id (range k (l ∷ [])) after here in
      elim (lt_or_le number c.groups) [
        | inl lt ↦ omega (arith, lt)
        | inr le ↦ (let more : past c.groups (l ++ number ∷ []) ≡ past c.groups l + 1 = past-append c.groups l (number ∷ []) ∙ ap (λ n. past c.groups l + n) (past_at c.groups number le) in omega (arith, sum, kept.bound, none, more))
      ]

  same_total : (f : Range → ℕ) → f after ≡ f (range k (l ∷ [])) → range_sum f (set s.views id after) ≡ range_sum f s.views
  same_total f e = omega (arith, total-set f s.views id (range k (l ∷ [])) after here, e)

  draws_more : number + 1 ≡ c.workers + length (kept.draws ++ k ∷ [])
  draws_more = omega (arith, length-append kept.draws (k ∷ []))

  drawn_kept : SharingInvariant c record { words = set s.words 0 ((number + 1) % 2 ^ 64); homes = s.homes; views = set s.views id after }
  drawn_kept = record {
    draws = kept.draws ++ k ∷ [];
    who = Every-append (λ j. j < c.workers) kept.draws (k ∷ []) kept.who (is_worker, tt);
    word = ap (λ (ws : List ℕ). set ws 0 ((number + 1) % 2 ^ 64)) kept.word ∙ ap (λ n. n ∷ []) (mod-eq_of_lt (omega (arith, word_bound c s kept, kept.counts.0, kept.counts.1)) ∙ draws_more);
    views = λ at v e. ⊎_elim (λ t. subst (IsView c (kept.draws ++ k ∷ [])) t.1 own) (λ t. other at v t.0 t.1) (at_set s.views id at after v e);
    each = λ j lt. same_total (covers j) refl ∙ kept.each j lt;
    no_other = λ j le. same_total (covers j) refl ∙ kept.no_other j le;
    all = same_total workers_in refl ∙ kept.all;
    bound = subst (λ n. n ≤ c.groups + range_sum (all_past c.groups) (set s.views id after)) draws_more bound_after;
    counts = kept.counts;
  }

  rising_after : Every (RisesFrom (k + 1)) ((l ++ number ∷ []) ∷ [])
  rising_after = subst (Every (RisesFrom (k + 1))) (sym own.lists) (lists_rise (k + 1) k 1 c.workers (kept.draws ++ k ∷ []) (omega (arith, is_worker)))

-- a seat of one worker, none of whose numbers reaches the number of groups, may draw
pub draw_allowed : {S : Type 0} (c : Counts) (slots id k : ℕ) (l : List ℕ) (rest : List (ℕ × S)) → past c.groups l ≡ 0
    → Allows (SharingInvariant c) slots id (range k (l ∷ []), rest) 0 (λ n. (n + 1) % 2 ^ 64) (Draws (step slots 0 1 0 none) (range k (l ∷ []), rest))
draw_allowed {S} c slots id k l rest few s kept homes here small =
    let n : ℕ = c.workers + length kept.draws in
    let found : slice_index s.words 0 ≡ n = ap (λ (ws : List ℕ). slice_index ws 0) kept.word in
    let w : Range = range k ((l ++ n ∷ []) ∷ []) in
    subst (λ (m : ℕ). (w : Range) × (a : Act S) × Valid s.homes rest a × SharingInvariant c (stepped s 0 ((m + 1) % 2 ^ 64) id rest w a) × Draws (step slots 0 1 0 none) (range k (l ∷ []), rest) m (w, carried_after rest a)) (sym found)
    (w, keeps, tt, drawn_kept c s kept id k l here few, record { drew = refl; rising = rising_after c s kept id k l here few })

pub draws_allowed : {S : Type 0} (c : Counts) (slots id k : ℕ) (l : List ℕ) (me : Me S Range) → me ≡ (range k (l ∷ []), []) → past c.groups l ≡ 0
    → Allows (SharingInvariant c) slots id me 0 (λ n. (n + 1) % 2 ^ 64) (Draws (step slots 0 1 0 none) me)
draws_allowed {S} c slots id k l me e few = subst (λ (m : Me S Range). Allows (SharingInvariant c) slots id m 0 (λ n. (n + 1) % 2 ^ 64) (Draws (step slots 0 1 0 none) m)) (sym e) (draw_allowed c slots id k l [] few)

-- a view may be cut in two
pub cut_kept : {S : Type 0} (c : Counts) (id first : ℕ) (xs ys : List (List ℕ)) → Splits {S = S} (SharingInvariant c) id (range first (xs ++ ys)) (range first xs) (range (first + length xs) ys)
cut_kept {S} c id first xs ys s kept here = record {
  draws = kept.draws;
  who = kept.who;
  word = kept.word;
  views = λ at v e. ⊎_elim (λ old. ⊎_elim (λ t. subst (IsView c kept.draws) t.1 left_view) (λ t. kept.views at v t.1) (at_set s.views id at left v old)) (λ q. subst (IsView c kept.draws) q right_view) (at_snoc (set s.views id left) right v at e);
  each = λ k lt. same (covers k) (covers_cut k first xs ys) ∙ kept.each k lt;
  no_other = λ k le. same (covers k) (covers_cut k first xs ys) ∙ kept.no_other k le;
  all = same workers_in (length-append xs ys) ∙ kept.all;
  bound = subst (λ n. c.workers + length kept.draws ≤ c.groups + n) (sym (same (all_past c.groups) (past_in-append c.groups xs ys))) kept.bound;
  counts = kept.counts;
} where
  left : Range
  left = range first xs

  right : Range
  right = range (first + length xs) ys

  whole : IsView c kept.draws (range first (xs ++ ys))
  whole = kept.views id (range first (xs ++ ys)) here

  parts : xs ++ ys ≡ lists_from first (length xs) c.workers kept.draws ++ lists_from (first + length xs) (length ys) c.workers kept.draws
  parts = whole.lists ∙ (ap (λ n. lists_from first n c.workers kept.draws) (length-append xs ys) ∙ lists_from-append first (length xs) (length ys) c.workers kept.draws)

  left_view : IsView c kept.draws left
  left_view = record {
    lists = append_left xs (lists_from first (length xs) c.workers kept.draws) ys (lists_from (first + length xs) (length ys) c.workers kept.draws) (sym (length-lists_from first (length xs) c.workers kept.draws)) parts;
    last = Every-left (λ l. past c.groups l ≤ 1) xs ys whole.last;
  }

  right_view : IsView c kept.draws right
  right_view = record {
    lists = append_right xs (lists_from first (length xs) c.workers kept.draws) ys (lists_from (first + length xs) (length ys) c.workers kept.draws) (sym (length-lists_from first (length xs) c.workers kept.draws)) parts;
    last = Every-right (λ l. past c.groups l ≤ 1) xs ys whole.last;
  }

  same : (f : Range → ℕ) → f (range first (xs ++ ys)) ≡ f left + f right → range_sum f (set s.views id left ++ right ∷ []) ≡ range_sum f s.views
  same f sum = total_cut f s.views id (range first (xs ++ ys)) left right here sum

pub halves_kept : {S : Type 0} (c : Counts) (id : ℕ) (v : Range) → Splits {S = S} (SharingInvariant c) id v (lower_half v) (upper_half v)
halves_kept {S} c id v s kept here =
    let h : ℕ = length v.lists / 2 in
    let cut = take-append-drop h v.lists in
    let few : length (take h v.lists) ≡ h = length-take h (v.lists) ∙ half_min (length v.lists) in
    subst (λ n. SharingInvariant c record { words = s.words; homes = s.homes; views = set s.views id (lower_half v) ++ range (v.first + n) (drop h v.lists) ∷ [] }) few
    (cut_kept c id v.first (take h v.lists) (drop h v.lists) s kept (here ∙ ap (λ (ls : List (List ℕ)). some (range v.first ls)) (sym cut)))

-- two views, side by side, may be one
pub joined_kept : {S : Type 0} (c : Counts) (id other : ℕ) (v w : Range) → w.first ≡ v.first + length v.lists → Joins {S = S} (SharingInvariant c) id v other w (joined_range v w) nobody
joined_kept {S} c id other v w beside s kept here apart there = record {
  draws = kept.draws;
  who = kept.who;
  word = kept.word;
  views = λ at u e. ⊎_elim (λ t. subst (IsView c kept.draws) t.1 none_view) (λ t. ⊎_elim (λ q. subst (IsView c kept.draws) q.1 both_view) (λ q. kept.views at u q.1) (at_set s.views id at (joined_range v w) u t.1)) (at_set (set s.views id (joined_range v w)) other at nobody u e);
  each = λ k lt. same (covers k) (covered k) refl ∙ kept.each k lt;
  no_other = λ k le. same (covers k) (covered k) refl ∙ kept.no_other k le;
  all = same workers_in (length-append v.lists w.lists) refl ∙ kept.all;
  bound = subst (λ n. c.workers + length kept.draws ≤ c.groups + n) (sym (same (all_past c.groups) (past_in-append c.groups v.lists w.lists) refl)) kept.bound;
  counts = kept.counts;
} where
  left_view : IsView c kept.draws v
  left_view = kept.views id v here

  right_view : IsView c kept.draws w
  right_view = ⊎_elim (λ t. absurd (apart t.0)) (λ t. kept.views other w t.1) (at_set s.views id other (joined_range v w) w there)

  none_view : IsView c kept.draws nobody
  none_view = record { lists = refl; last = tt }

  both_view : IsView c kept.draws (joined_range v w)
  both_view = record {
    lists = ap₂ ◌++◌ left_view.lists (right_view.lists ∙ ap (λ n. lists_from n (length w.lists) c.workers kept.draws) beside)
        ∙ (sym (lists_from-append v.first (length v.lists) (length w.lists) c.workers kept.draws) ∙ ap (λ n. lists_from v.first n c.workers kept.draws) (sym (length-append v.lists w.lists)));
    last = Every-append (λ l. past c.groups l ≤ 1) v.lists w.lists left_view.last right_view.last;
  }

  covered : (k : ℕ) → covers k (joined_range v w) ≡ covers k v + covers k w
  covered k = covers_cut k v.first v.lists w.lists ∙ ap (λ n. covers k v + times k (workers_from n (length w.lists))) (sym beside)

  same : (f : Range → ℕ) → f (joined_range v w) ≡ f v + f w → f nobody ≡ 0 → range_sum f (set (set s.views id (joined_range v w)) other nobody) ≡ range_sum f s.views
  same f sum zero_there = total_joined f s.views id other v w (joined_range v w) nobody here there sum zero_there

-- the rule holds at the start
pub start_kept : {S : Type 0} (c : Counts) (homes : List (Option S)) → c.workers ≤ c.groups → c.groups < 2 ^ 32 → SharingInvariant c record { words = c.workers ∷ []; homes = homes; views = all_workers c ∷ [] }
start_kept c homes le small = record {
  draws = [];
  who = tt;
  word = ap (λ n. n ∷ []) (omega arith);
  views = λ at v e. subst (IsView c []) (⊎_elim (λ h. absurd (some-ne-none v (sym h))) (λ q. q) (at_snoc [] (all_workers c) v at e)) first_view;
  each = λ k lt. here k ∙ covers_in k 0 c.workers (omega arith) (omega (arith, lt));
  no_other = λ k out. here k ∙ covers_above k 0 c.workers (omega (arith, out));
  all = omega (arith, count);
  bound = omega (arith, le);
  counts = (le, small);
} where
  count : length (all_workers c).lists ≡ c.workers
  count = length-replicate c.workers []

  first_view : IsView c [] (all_workers c)
  first_view = record {
    lists = sym (lists_from-none 0 c.workers c.workers) ∙ ap (λ n. lists_from 0 n c.workers []) (sym count);
    last = none_past c.groups c.workers;
  }

  here : (k : ℕ) → range_sum (covers k) (all_workers c ∷ []) ≡ times k (workers_from 0 c.workers)
  here k = omega (arith, ap (λ n. times k (workers_from 0 n)) count)
