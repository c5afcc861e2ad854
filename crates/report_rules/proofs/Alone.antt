-- Each worker is one thread on the items of its groups.
use Rattle.std.proofs.Common.{◌≡◌, ℕ, zero, suc, ◌+◌, ◌<◌, ◌≤◌, Bool, true, false, cond, List, [], ◌∷◌, ◌++◌, map, length, inl, inr, refl, sym, ap, ◌∙◌, subst, eqb, eq-eqb, arith, flat_map, Option, None}
use Rattle.std.proofs.lemmas.List.{append-nil}
use Rattle.std.proofs.lemmas.Bool.{cases_eq, ne_eqb}
use Rattle.std.specs.List.{filter}
use Rattle.report_parts.specs.declared.report.Place.{Place}
use Rattle.report_rules.proofs.Lists.{filter_app, map_append, map_map}
use Rattle.report_rules.proofs.Once.{all_tasks}
use Rattle.report_rules.proofs.Workers.{at_group}
use Rattle.report_rules.specs.Alone.{AreAsOneThread, is_by, of_worker, taken_by, unplaced}
use Rattle.report_rules.specs.Collected.{SelectedItem, Collected}
use Rattle.report_rules.specs.Groups.{group_at, groups}
use Rattle.report_rules.specs.Once.{row_task}
use Rattle.report_rules.specs.Rows.{Arrival, ReportRow, Task, arrivals_of, by_item, task_item, ran, report_row, session_rows, task, with_ends}
use Rattle.report_rules.specs.Shares.{by_group, in_group, group_place, tasks_from, tasks_of, worked}
use Rattle.session_types.proofs.Lists.{In-append}
use Rattle.session_types.specs.Members.{IsMember}
use Rattle.session_rules.specs.Session.{session, initial_state}
use Rattle.session_rules.specs.Teardown.{PhaseEnd}
use Rattle.session_rules.specs.World.{Item, Language, Rules}
use Rattle.share_files.specs.Deal.{Every, RisesFrom, Share}

-- ON FILTERS

keep_all : {A : Type 0} (p : A → Bool) (xs : List A) → ((x : A) → IsMember x xs → p x ≡ true) → filter p xs ≡ xs
keep_all p [] law = refl
keep_all {A} p (x ∷ xs) law = rw (law x (inl refl)) (ap (λ (l : List A). x ∷ l) (keep_all p xs (λ y m. law y (inr m))))

keep_none : {A : Type 0} (p : A → Bool) (xs : List A) → ((x : A) → IsMember x xs → p x ≡ false) → filter p xs ≡ []
keep_none p [] law = refl
keep_none {A} p (x ∷ xs) law = rw (law x (inl refl)) (keep_none p xs (λ y m. law y (inr m)))

-- of two filters either may come first
swapped : {A : Type 0} (p q : A → Bool) (xs : List A) → filter p (filter q xs) ≡ filter q (filter p xs)
swapped p q [] = refl
swapped {A} p q (x ∷ xs) =
    elim (p x) as (λ b. p x ≡ b → filter p (cond (q x) (x ∷ filter q xs) (filter q xs)) ≡ filter q (cond b (x ∷ filter p xs) (filter p xs))) [
      | true ↦ λ e. elim (q x) as (λ d. q x ≡ d → filter p (cond d (x ∷ filter q xs) (filter q xs)) ≡ filter q (x ∷ filter p xs)) [
        | true ↦ λ f. rw (e, f) (ap (λ (l : List A). x ∷ l) (swapped p q xs))
        | false ↦ λ f. rw f (swapped p q xs)
      ] refl
      | false ↦ λ e. elim (q x) as (λ d. filter p (cond d (x ∷ filter q xs) (filter q xs)) ≡ filter q (filter p xs)) [
        | true ↦ rw e (swapped p q xs)
        | false ↦ swapped p q xs
      ]
    ] refl

grouped : {L : Language} (k g count : ℕ) (rows : List (ReportRow L)) → filter (of_worker k) (by_group g count rows) ≡ by_group g count (filter (of_worker k) rows)
grouped k g zero rows = refl
grouped {L} k g (suc count) rows =
    filter_app (of_worker k) (filter (in_group g) rows) (by_group (g + 1) count rows)
    ∙ (ap (λ (l : List (ReportRow L)). l ++ filter (of_worker k) (by_group (g + 1) count rows)) (swapped (of_worker k) (in_group g) rows)
    ∙ ap (λ (l : List (ReportRow L)). filter (in_group g) (filter (of_worker k) rows) ++ l) (grouped k (g + 1) count rows))

-- THE ROWS OF ONE WORKER

pub In-task : {L : Language} (r : ReportRow L) (rows : List (ReportRow L)) → IsMember r rows → IsMember r.task (map row_task rows)
In-task r [] m = absurd m
In-task {L} r (x ∷ xs) (inl e) = inl (ap (λ (y : ReportRow L). y.task) e)
In-task r (x ∷ xs) (inr m) = inr (In-task r xs m)

const_task : (p : Option Place) (cs : List SelectedItem) (t : Task) → IsMember t (map (task p) cs) → t.place ≡ p
const_task p [] t m = absurd m
const_task p (c ∷ cs) t (inl e) = ap (λ (u : Task). u.place) e
const_task p (c ∷ cs) t (inr m) = const_task p cs t m

by_one : (gs : List (List SelectedItem)) (j : ℕ) (l : List ℕ) (t : Task) → IsMember t (tasks_of gs j l) → (k : ℕ) → is_by k t.place ≡ eqb j k
by_one gs j [] t m k = absurd m
by_one gs j (g ∷ l) t m k =
    elim (In-append t (map (task (group_place g j)) (group_at gs g)) (tasks_of gs j l) m) [
      | inl a ↦ ap (λ (p : Option Place). is_by k p) (const_task (group_place g j) (group_at gs g) t a)
      | inr b ↦ by_one gs j l t b k
    ]

rows_by : {L : Language} (rules : Rules L) (w : L.World) (gs : List (List SelectedItem)) (j : ℕ) (l : List ℕ) (r : ReportRow L) → IsMember r (session_rows rules w 0 (tasks_of gs j l)) → (k : ℕ) → of_worker k r ≡ eqb j k
rows_by rules w gs j l r m k = by_one gs j l r.task (subst (λ (ts : List Task). IsMember r.task ts) (all_tasks rules w (tasks_of gs j l)) (In-task r (session_rows rules w 0 (tasks_of gs j l)) m)) k

none_by : {L : Language} (rules : Rules L) (w : L.World) (gs : List (List SelectedItem)) (k j : ℕ) (ls : List (List ℕ)) → k < j → filter (of_worker k) (worked rules w (tasks_from gs j ls)) ≡ []
none_by rules w gs k j [] lt = refl
none_by {L} rules w gs k j (l ∷ ls) lt =
    let mine = session_rows rules w 0 (tasks_of gs j l) in
    let more = worked rules w (tasks_from gs (j + 1) ls) in
    filter_app (of_worker k) mine more
    ∙ (ap (λ (x : List (ReportRow L)). x ++ filter (of_worker k) more) (keep_none (of_worker k) mine (λ r m. rows_by rules w gs j l r m k ∙ ne_eqb j k (λ e. omega (arith, e, lt))))
    ∙ none_by rules w gs k (j + 1) ls (omega (arith, lt)))

-- the rows of worker j + k are those of the list at k
only_by : {L : Language} (rules : Rules L) (w : L.World) (gs : List (List SelectedItem)) (j k : ℕ) (ls : List (List ℕ)) → filter (of_worker (j + k)) (worked rules w (tasks_from gs j ls)) ≡ session_rows rules w 0 (tasks_of gs (j + k) (taken_by ls k))
only_by rules w gs j k [] = refl
only_by {L} rules w gs j zero (l ∷ ls) =
    let mine = session_rows rules w 0 (tasks_of gs j l) in
    let more = worked rules w (tasks_from gs (j + 1) ls) in
    let z : j ≡ j + 0 = omega arith in
    subst (λ (n : ℕ). filter (of_worker n) (mine ++ more) ≡ session_rows rules w 0 (tasks_of gs n l)) z
    (filter_app (of_worker j) mine more
    ∙ (ap (λ (x : List (ReportRow L)). x ++ filter (of_worker j) more) (keep_all (of_worker j) mine (λ r m. rows_by rules w gs j l r m j ∙ eq-eqb j j refl))
    ∙ (ap (λ (x : List (ReportRow L)). mine ++ x) (none_by rules w gs j (j + 1) ls (omega arith)) ∙ append-nil mine)))
only_by {L} rules w gs j (suc k) (l ∷ ls) =
    let mine = session_rows rules w 0 (tasks_of gs j l) in
    let more = worked rules w (tasks_from gs (j + 1) ls) in
    let n = j + suc k in
    let z : j + 1 + k ≡ n = omega arith in
    filter_app (of_worker n) mine more
    ∙ (ap (λ (x : List (ReportRow L)). x ++ filter (of_worker n) more) (keep_none (of_worker n) mine (λ r m. rows_by rules w gs j l r m n ∙ ne_eqb j n (λ e. omega (arith, e))))
    ∙ subst (λ (m : ℕ). filter (of_worker m) more ≡ session_rows rules w 0 (tasks_of gs m (taken_by ls k))) z (only_by rules w gs (j + 1) k ls))

-- ROWS THAT STAND IN THE ORDER OF THEIR GROUPS

abbrev Along : ℕ → ℕ → List Task → Type 0
Along low high [] = Unit {0}
Along low high (t ∷ ts) = (g : ℕ) × (low ≤ g) × (g < high) × ((h : ℕ) → at_group h t ≡ eqb g h) × Along g high ts

along_lower : (low from high : ℕ) (ts : List Task) → low ≤ from → Along from high ts → Along low high ts
along_lower low from high [] le a = tt
along_lower low from high (t ∷ ts) le a = (let l = a.1 in (a.0, omega (arith, le, l), a.2, a.3, a.4))

pub record Cut {L : Language} (low high : ℕ) (rows : List (ReportRow L)) : Type 0 where
  pub mine : List (ReportRow L)
  pub more : List (ReportRow L)
  pub are : rows ≡ mine ++ more
  pub own : filter (in_group low) mine ≡ mine
  pub apart : (h : ℕ) → low < h → filter (in_group h) mine ≡ []
  pub none : filter (in_group low) more ≡ []
  pub along : Along (low + 1) high (map row_task more)

none_low : {L : Language} (low from high : ℕ) (rows : List (ReportRow L)) → low < from → Along from high (map row_task rows) → filter (in_group low) rows ≡ []
none_low low from high [] lt a = refl
none_low low from high (r ∷ rs) lt a =
    let l = a.1 in
    let e : in_group low r ≡ false = a.3 low ∙ ne_eqb a.0 low (λ q. omega (arith, q, lt, l)) in
    rw e (none_low low a.0 high rs (omega (arith, lt, l)) a.4)

cut : {L : Language} (low high : ℕ) (rows : List (ReportRow L)) → Along low high (map row_task rows) → Cut low high rows
cut low high [] a = record { mine = []; more = []; are = refl; own = refl; apart = λ h lt. refl; none = refl; along = tt }
cut {L} low high (r ∷ rs) a =
    let l = a.1 in
    elim (cases_eq a.0 low) [
      | inl e ↦
          (let c = cut low high rs (along_lower low a.0 high (map row_task rs) l a.4) in
          let yes : in_group low r ≡ true = a.3 low ∙ eq-eqb a.0 low e in
          record {
            mine = r ∷ c.mine;
            more = c.more;
            are = ap (λ (x : List (ReportRow L)). r ∷ x) c.are;
            own = rw yes (ap (λ (x : List (ReportRow L)). r ∷ x) c.own);
            apart = λ h lt. (let no : in_group h r ≡ false = a.3 h ∙ ne_eqb a.0 h (λ q. omega (arith, q, e, lt)) in rw no (c.apart h lt));
            none = c.none;
            along = c.along;
          })
      | inr ne ↦
          (let up : low + 1 ≤ a.0 = omega (arith, ne, l) in
          record {
            mine = [];
            more = r ∷ rs;
            are = refl;
            own = refl;
            apart = λ h lt. refl;
            none = none_low low (low + 1) high (r ∷ rs) (omega arith) (a.0, up, a.2, a.3, a.4);
            along = (a.0, up, a.2, a.3, a.4);
          })
    ]

passed_over : {L : Language} (g count : ℕ) (mine more : List (ReportRow L)) → ((h : ℕ) → g ≤ h → filter (in_group h) mine ≡ []) → by_group g count (mine ++ more) ≡ by_group g count more
passed_over g zero mine more law = refl
passed_over {L} g (suc count) mine more law =
    ap (λ (x : List (ReportRow L)). x ++ by_group (g + 1) count (mine ++ more)) (filter_app (in_group g) mine more ∙ ap (λ (x : List (ReportRow L)). x ++ filter (in_group g) more) (law g (omega arith)))
    ∙ ap (λ (x : List (ReportRow L)). filter (in_group g) more ++ x) (passed_over (g + 1) count mine more (λ h le. law h (omega (arith, le))))

in_place : {L : Language} (count low high : ℕ) (rows : List (ReportRow L)) → low + count ≡ high → Along low high (map row_task rows) → by_group low count rows ≡ rows
in_place zero low high [] e a = refl
in_place zero low high (r ∷ rs) e a = (let l = a.1 in let m = a.2 in absurd (omega (arith, l, m, e)))
in_place {L} (suc count) low high rows e a =
    let c = cut low high rows a in
    let first : filter (in_group low) (c.mine ++ c.more) ≡ c.mine = filter_app (in_group low) c.mine c.more ∙ (ap (λ (x : List (ReportRow L)). x ++ filter (in_group low) c.more) c.own ∙ (ap (λ (x : List (ReportRow L)). c.mine ++ x) c.none ∙ append-nil c.mine)) in
    let rest : by_group (low + 1) count (c.mine ++ c.more) ≡ c.more = passed_over (low + 1) count c.mine c.more (λ h le. c.apart h (omega (arith, le))) ∙ in_place count (low + 1) high c.more (omega (arith, e)) c.along in
    subst (λ (x : List (ReportRow L)). by_group low (suc count) x ≡ x) (sym c.are)
    (ap (λ (x : List (ReportRow L)). x ++ by_group (low + 1) count (c.mine ++ c.more)) first ∙ ap (λ (x : List (ReportRow L)). c.mine ++ x) rest)

group_below : (gs : List (List SelectedItem)) (g : ℕ) (c : SelectedItem) → IsMember c (group_at gs g) → g < length gs
group_below [] g c m = absurd m
group_below (x ∷ gs) zero c m = omega arith
group_below (x ∷ gs) (suc g) c m = (let l = group_below gs g c m in omega (arith, l))

along_group : (g k high low : ℕ) (cs : List SelectedItem) (more : List Task) → low ≤ g → ((c : SelectedItem) → IsMember c cs → g < high) → Along g high more → Along low high (map (task (group_place g k)) cs ++ more)
along_group g k high low [] more le below a = along_lower low g high more le a
along_group g k high low (c ∷ cs) more le below a = (g, le, below c (inl refl), (λ h. refl), along_group g k high g cs more (omega arith) (λ d m. below d (inr m)) a)

along_tasks : (gs : List (List SelectedItem)) (k low : ℕ) (l : List ℕ) → RisesFrom low l → Along low (length gs) (tasks_of gs k l)
along_tasks gs k low [] r = tt
along_tasks gs k low (g ∷ l) r = along_group g k (length gs) low (group_at gs g) (tasks_of gs k l) r.0 (λ c m. group_below gs g c m) (along_lower g (g + 1) (length gs) (tasks_of gs k l) (omega arith) (along_tasks gs k (g + 1) l r.1))

-- WITHOUT PLACES

abbrev untask : Task → Task
untask t = task None t.chosen

with_unplaced : {L : Language} (arrivals : List Arrival) (ts : List Task) (ends : List (List (PhaseEnd L))) → map unplaced (with_ends arrivals ts ends) ≡ with_ends arrivals (map untask ts) ends
with_unplaced arrivals [] ends = refl
with_unplaced arrivals (t ∷ ts) [] = refl
with_unplaced {L} arrivals (t ∷ ts) (e ∷ es) =
    let next = arrivals ++ arrivals_of t.chosen e in
    ap (λ (l : List (ReportRow L)). report_row (untask t) e next ∷ l) (with_unplaced next ts es)

same_items : (ts : List Task) → map task_item (map untask ts) ≡ map task_item ts
same_items ts = map_map task_item untask ts

unplaced_tasks : (gs : List (List SelectedItem)) (k : ℕ) (l : List ℕ) → map untask (tasks_of gs k l) ≡ map (task None) (flat_map (group_at gs) l)
unplaced_tasks gs k [] = refl
unplaced_tasks gs k (g ∷ l) =
    map_append untask (map (task (group_place g k)) (group_at gs g)) (tasks_of gs k l)
    ∙ (ap (λ (x : List Task). x ++ map untask (tasks_of gs k l)) (map_map untask (task (group_place g k)) (group_at gs g))
    ∙ (ap (λ (x : List Task). map (task None) (group_at gs g) ++ x) (unplaced_tasks gs k l) ∙ sym (map_append (task None) (group_at gs g) (flat_map (group_at gs) l))))

unplaced_rows : {L : Language} (rules : Rules L) (w : L.World) (ts : List Task) → map unplaced (session_rows rules w 0 ts) ≡ session_rows rules w 0 (map untask ts)
unplaced_rows {L} rules w ts =
    with_unplaced [] ts (by_item (ran rules w 0 ts).ends)
    ∙ ap (λ (x : List Item). with_ends [] (map untask ts) (by_item (session rules 0 x (initial_state w)).ends)) (sym (same_items ts))

rises_at : (ls : List (List ℕ)) (k : ℕ) → Every (RisesFrom 0) ls → RisesFrom 0 (taken_by ls k)
rises_at [] k r = tt
rises_at (l ∷ ls) zero r = r.0
rises_at (l ∷ ls) (suc k) r = rises_at ls k r.1

pub as_one_thread : {L : Language} {T : Type 0} (rules : Rules L) (c : Collected L T) (n : ℕ) (taken : List (List ℕ)) → Share (length (groups c.selected)) n taken → AreAsOneThread rules c taken (by_group 0 (length (groups c.selected)) (worked rules c.world (tasks_from (groups c.selected) 0 taken)))
as_one_thread {L} rules c n taken share = λ k.
    (let gs = groups c.selected in
    let l = taken_by taken k in
    let all = worked rules c.world (tasks_from gs 0 taken) in
    let z : 0 + k ≡ k = omega arith in
    let mine : filter (of_worker k) all ≡ session_rows rules c.world 0 (tasks_of gs k l) = subst (λ (m : ℕ). filter (of_worker m) all ≡ session_rows rules c.world 0 (tasks_of gs m l)) z (only_by rules c.world gs 0 k taken) in
    let along : Along 0 (length gs) (map row_task (session_rows rules c.world 0 (tasks_of gs k l))) = subst (λ (ts : List Task). Along 0 (length gs) ts) (sym (all_tasks rules c.world (tasks_of gs k l))) (along_tasks gs k 0 l (rises_at taken k share.rising)) in
    let h : filter (of_worker k) (by_group 0 (length gs) all) ≡ session_rows rules c.world 0 (tasks_of gs k l) = grouped k 0 (length gs) all ∙ (ap (λ (x : List (ReportRow L)). by_group 0 (length gs) x) mine ∙ in_place (length gs) 0 (length gs) (session_rows rules c.world 0 (tasks_of gs k l)) (omega arith) along) in
    ap (λ (x : List (ReportRow L)). map unplaced x) h ∙ (unplaced_rows rules c.world (tasks_of gs k l) ∙ ap (λ (x : List Task). session_rows rules c.world 0 x) (unplaced_tasks gs k l)))
