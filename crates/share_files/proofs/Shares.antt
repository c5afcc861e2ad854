-- What workers took of a deal is a share.
use Rattle.std.proofs.Common.{◌≡◌, ℕ, zero, suc, ◌+◌, ◌<◌, ◌≤◌, Bool, true, false, cond, List, [], ◌∷◌, length, inl, inr, refl, sym, ap, ◌∙◌, subst, arith, filter, nat_lt, eqb, le_refl, slice_get}
use Rattle.std.proofs.lemmas.Bool.{cases_eq, lt-ltb, le-ltb}
use Rattle.share_files.specs.Deal.{drawn, deal, RisesFrom, Every, times, times_in, BeginWith, Share}
use Rattle.share_files.specs.Rule.{workers_from, past}
use Rattle.share_files.specs.Work.{Took}
use Rattle.share_files.proofs.Dealt.{times_else, length-lists_from, lists_rise, none_below, each_once, drawn_same, drawn_else}
use Rattle.share_files.proofs.Views.{lt_or_le, covers_in, covers_above, past_below}

took_length : (groups k : ℕ) (ds ls : List (List ℕ)) → Took groups k ds ls → length ls ≡ length ds
took_length groups k [] [] t = refl
took_length groups k (d ∷ ds) (l ∷ ls) t = ap suc (took_length groups (k + 1) ds ls t.2)
took_length groups k [] (l ∷ ls) t = absurd t
took_length groups k (d ∷ ds) [] t = absurd t

took_begins : (groups k : ℕ) (ds ls : List (List ℕ)) → Took groups k ds ls → BeginWith k ls
took_begins groups k [] [] t = tt
took_begins groups k (d ∷ ds) (l ∷ ls) t = (ap (λ (x : List ℕ). slice_get x 0) t.0, took_begins groups (k + 1) ds ls t.2)
took_begins groups k [] (l ∷ ls) t = absurd t
took_begins groups k (d ∷ ds) [] t = absurd t

rises_lower : (low from : ℕ) (xs : List ℕ) → low ≤ from → RisesFrom from xs → RisesFrom low xs
rises_lower low from [] le r = tt
rises_lower low from (x ∷ xs) le r = (omega (arith, le, r.0), r.1)

rises_filter : (p : ℕ → Bool) (low : ℕ) (xs : List ℕ) → RisesFrom low xs → RisesFrom low (filter p xs)
rises_filter p low [] r = tt
rises_filter p low (x ∷ xs) r = elim (p x) as (λ b. RisesFrom low (cond b (x ∷ filter p xs) (filter p xs))) [
  | true ↦ (r.0, rises_filter p (x + 1) xs r.1)
  | false ↦ rises_lower low (x + 1) (filter p xs) (omega (arith, r.0)) (rises_filter p (x + 1) xs r.1)
]

took_rises : (groups k next : ℕ) (ds ls : List (List ℕ)) → Every (RisesFrom next) ds → k + length ds ≤ next → Took groups k ds ls → Every (RisesFrom 0) ls
took_rises groups k next [] [] r le t = tt
took_rises groups k next (d ∷ ds) (l ∷ ls) r le t = (
  subst (RisesFrom 0) (sym t.0) (omega arith, rises_lower (k + 1) next (filter (λ n. nat_lt n groups) d) (omega (arith, le)) (rises_filter (λ n. nat_lt n groups) next d r.0)),
  took_rises groups (k + 1) next ds ls r.1 (omega (arith, le)) t.2,
)
took_rises groups k next [] (l ∷ ls) r le t = absurd t
took_rises groups k next (d ∷ ds) [] r le t = absurd t

filter_keeps : (groups x : ℕ) (xs : List ℕ) → x < groups → times x (filter (λ n. nat_lt n groups) xs) ≡ times x xs
filter_keeps groups x [] lt = refl
filter_keeps groups x (y ∷ ys) lt = elim (lt_or_le y groups) [
  | inl lt1 ↦ rw (lt-ltb y groups lt1) (ap (λ n. cond (eqb y x) 1 0 + n) (filter_keeps groups x ys lt))
  | inr out ↦ rw (le-ltb y groups out) (filter_keeps groups x ys lt ∙ sym (times_else x y ys (λ e. omega (arith, e, lt, out))))
]

filter_drops : (groups x : ℕ) (xs : List ℕ) → groups ≤ x → times x (filter (λ n. nat_lt n groups) xs) ≡ 0
filter_drops groups x [] le = refl
filter_drops groups x (y ∷ ys) le = elim (lt_or_le y groups) [
  | inl lt1 ↦ rw (lt-ltb y groups lt1) (times_else x y (filter (λ n. nat_lt n groups) ys) (λ e. omega (arith, e, le, lt1)) ∙ filter_drops groups x ys le)
  | inr out ↦ rw (le-ltb y groups out) (filter_drops groups x ys le)
]

took_times : (groups k x : ℕ) (ds ls : List (List ℕ)) → x < groups → Took groups k ds ls → times_in x ls ≡ times x (workers_from k (length ds)) + times_in x ds
took_times groups k x [] [] lt t = refl
took_times groups k x (d ∷ ds) (l ∷ ls) lt t =
    let n : ℕ = cond (eqb k x) 1 0 in
    let own : times x l ≡ n + times x d = ap (times x) t.0 ∙ ap (λ m. n + m) (filter_keeps groups x d lt) in
    let rest = took_times groups (k + 1) x ds ls lt t.2 in
    let w : ℕ = times x (workers_from (k + 1) (length ds)) in
    let goal : times x l + times_in x ls ≡ (n + w) + (times x d + times_in x ds) = omega (arith, own, rest) in
    goal
took_times groups k x [] (l ∷ ls) lt t = absurd t
took_times groups k x (d ∷ ds) [] lt t = absurd t

took_times_past : (groups k x : ℕ) (ds ls : List (List ℕ)) → groups ≤ x → Took groups k ds ls → times_in x ls ≡ times x (workers_from k (length ds))
took_times_past groups k x [] [] le t = refl
took_times_past groups k x (d ∷ ds) (l ∷ ls) le t =
    let n : ℕ = cond (eqb k x) 1 0 in
    let own : times x l ≡ n + 0 = ap (times x) t.0 ∙ ap (λ m. n + m) (filter_drops groups x d le) in
    let rest = took_times_past groups (k + 1) x ds ls le t.2 in
    let w : ℕ = times x (workers_from (k + 1) (length ds)) in
    let goal : times x l + times_in x ls ≡ n + w = omega (arith, own, rest) in
    goal
took_times_past groups k x [] (l ∷ ls) le t = absurd t
took_times_past groups k x (d ∷ ds) [] le t = absurd t

-- where a list has a number past the groups, so is the next one
drawn_past : (groups k next : ℕ) (draws : List ℕ) → 1 ≤ past groups (drawn k next draws) → groups < next + length draws
drawn_past groups k next [] some = absurd (omega (arith, some))
drawn_past groups k next (who ∷ draws) some = elim (cases_eq who k) [
  | inr ne ↦ omega (arith, drawn_past groups k (next + 1) draws (subst (λ (l : List ℕ). 1 ≤ past groups l) (drawn_else k next who draws ne) some))
  | inl e ↦ elim (lt_or_le next groups) [
    | inr le ↦ omega (arith, le)
    | inl lt ↦ omega (arith, drawn_past groups k (next + 1) draws (omega (arith, past_below groups next lt, ap (past groups) (drawn_same k next who draws e), some)))
  ]
]

took_past : (groups n : ℕ) (draws : List ℕ) (ls : List (List ℕ)) → 1 ≤ n → Took groups 0 (deal n draws) ls → groups < n + length draws
took_past groups zero draws ls some t = absurd (omega (arith, some))
took_past groups (suc n) draws [] some t = absurd t
took_past groups (suc n) draws (l ∷ ls) some t = drawn_past groups 0 (suc n) draws t.1

pub share_law : (groups n : ℕ) (draws : List ℕ) (ls : List (List ℕ)) → Every (λ k. k < n) draws → 1 ≤ n → n ≤ groups → Took groups 0 (deal n draws) ls → Share groups n ls
share_law groups n draws ls who some le t = record {
  workers = took_length groups 0 (deal n draws) ls t ∙ len;
  once = record { each = λ x _ lt. each x lt; no_other = λ x or. elim or [ inl lt ↦ absurd (omega (arith, lt)) | inr out ↦ none x out ] };
  first = took_begins groups 0 (deal n draws) ls t;
  rising = took_rises groups 0 n (deal n draws) ls (lists_rise n 0 n n draws (le_refl n)) (omega (arith, len)) t;
} where
  len : length (deal n draws) ≡ n
  len = length-lists_from 0 n n draws

  own : (x : ℕ) → times x (workers_from 0 (length (deal n draws))) ≡ times x (workers_from 0 n)
  own x = ap (λ m. times x (workers_from 0 m)) len

  each : (x : ℕ) → x < groups → times_in x ls ≡ 1
  each x lt = elim (lt_or_le x n) [
    | inl lt1 ↦ omega (arith, took_times groups 0 x (deal n draws) ls lt t, own x, covers_in x 0 n (omega arith) (omega (arith, lt1)), none_below x 0 n n draws lt1)
    | inr out ↦ omega (arith, took_times groups 0 x (deal n draws) ls lt t, own x, covers_above x 0 n (omega (arith, out)), each_once x n n draws who out (omega (arith, lt, took_past groups n draws ls some t)))
  ]

  none : (x : ℕ) → groups ≤ x → times_in x ls ≡ 0
  none x out = took_times_past groups 0 x (deal n draws) ls out t ∙ (own x ∙ covers_above x 0 n (omega (arith, le, out)))
