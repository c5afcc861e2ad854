-- The places of a report agree with the assignment.
use Rattle.std.proofs.Common.{◌≡◌, ℕ, zero, suc, ◌+◌, Bool, true, false, cond, eqb, eq-eqb, List, [], ◌∷◌, ◌++◌, map, length, inl, inr, refl, sym, ap, ◌∙◌, subst, arith, Option, None, Some}
use Rattle.std.proofs.lemmas.List.{append-nil}
use Rattle.std.specs.List.{filter, filter_map}
use Rattle.cli_words.specs.declared.options.Options.{Options}
use Rattle.report_parts.specs.Outcomes.{not_empty}
use Rattle.report_parts.specs.declared.report.Place.{Place}
use Rattle.report_rules.proofs.Alone.{In-task}
use Rattle.report_rules.proofs.Once.{all_tasks, are_rows, front_tasks}
use Rattle.report_rules.specs.Alone.{taken_by}
use Rattle.report_rules.specs.Collected.{Collected, Profile, SelectedItem, report_language}
use Rattle.report_rules.specs.Groups.{group_at, groups}
use Rattle.report_rules.specs.Placed.{ArePlaced}
use Rattle.report_rules.specs.Once.{row_task}
use Rattle.report_rules.specs.Report.{single_thread, places_told, report_of, reports_told, rows_reported, workers_of}
use Rattle.report_rules.specs.Rows.{ReportRow, Task, report_row, session_rows, task}
use Rattle.report_rules.specs.Shares.{by_group, in_group, group_place, tasks_from, tasks_of, worked}
use Rattle.session_rules.specs.World.{Language, Rules}
use Rattle.session_types.proofs.Lists.{In-append, In-filter, In-left}
use Rattle.session_types.specs.Members.{IsMember}

-- a task of worker k, which took these groups
record OfWorker (gs : List (List SelectedItem)) (k : ℕ) (l : List ℕ) (t : Task) : Type 0 where
  at : Place
  is : t.place ≡ Some at
  by : at.worker ≡ k
  took : IsMember at.group l
  of : IsMember t.chosen (group_at gs at.group)

of_group : (gs : List (List SelectedItem)) (g k : ℕ) (cs : List SelectedItem) (t : Task) → ((c : SelectedItem) → IsMember c cs → IsMember c (group_at gs g)) → IsMember t (map (task (group_place g k)) cs) → OfWorker gs k (g ∷ []) t
of_group gs g k [] t sub m = absurd m
of_group gs g k (c ∷ cs) t sub (inl e) =
    record { at = record { group = g; worker = k }; is = ap (λ (u : Task). u.place) e; by = refl; took = inl refl; of = subst (λ (u : Task). IsMember u.chosen (group_at gs g)) (sym e) (sub c (inl refl)) }
of_group gs g k (c ∷ cs) t sub (inr m) = of_group gs g k cs t (λ d n. sub d (inr n)) m

of_worker : (gs : List (List SelectedItem)) (k : ℕ) (l : List ℕ) (t : Task) → IsMember t (tasks_of gs k l) → OfWorker gs k l t
of_worker gs k [] t m = absurd m
of_worker gs k (g ∷ l) t m =
    elim (In-append t (map (task (group_place g k)) (group_at gs g)) (tasks_of gs k l) m) [
      | inl a ↦ (let o = of_group gs g k (group_at gs g) t (λ c n. n) a in
          record { at = o.at; is = o.is; by = o.by; took = elim o.took [ inl e ↦ inl e | inr z ↦ absurd z ]; of = o.of })
      | inr b ↦ (let o = of_worker gs k l t b in record { at = o.at; is = o.is; by = o.by; took = inr o.took; of = o.of })
    ]

-- a row of the workers from j on
record Somewhere {L : Language} (gs : List (List SelectedItem)) (j : ℕ) (ls : List (List ℕ)) (r : ReportRow L) : Type 0 where
  worker : ℕ
  is_of : OfWorker gs (j + worker) (taken_by ls worker) r.task

somewhere : {L : Language} (rules : Rules L) (w : L.World) (gs : List (List SelectedItem)) (j : ℕ) (ls : List (List ℕ)) (r : ReportRow L) → IsMember r (worked rules w (tasks_from gs j ls)) → Somewhere gs j ls r
somewhere rules w gs j [] r m = absurd m
somewhere {L} rules w gs j (l ∷ ls) r m =
    elim (In-append r (session_rows rules w 0 (tasks_of gs j l)) (worked rules w (tasks_from gs (j + 1) ls)) m) [
      | inl a ↦ (let n = subst (λ (ts : List Task). IsMember r.task ts) (all_tasks rules w (tasks_of gs j l)) (In-task r (session_rows rules w 0 (tasks_of gs j l)) a) in
          let z : j ≡ j + 0 = omega arith in
          record { worker = 0; is_of = subst (λ (k : ℕ). OfWorker gs k l r.task) z (of_worker gs j l r.task n) })
      | inr b ↦ (let o = somewhere rules w gs (j + 1) ls r b in
          let n = o.worker in
          let z : j + 1 + n ≡ j + suc n = omega arith in
          record { worker = suc n; is_of = subst (λ (k : ℕ). OfWorker gs k (taken_by ls n) r.task) z o.is_of })
    ]

from_group : {L : Language} (g count : ℕ) (rows_reported : List (ReportRow L)) (r : ReportRow L) → IsMember r (by_group g count rows_reported) → IsMember r rows_reported
from_group g zero rows_reported r m = absurd m
from_group {L} g (suc count) rows_reported r m =
    elim (In-append r (filter (in_group g) rows_reported) (by_group (g + 1) count rows_reported) m) [
      | inl a ↦ (In-filter (in_group g) r rows_reported a).0
      | inr b ↦ from_group (g + 1) count rows_reported r b
    ]

pub are_placed : {L : Language} {T : Type 0} (rules : Rules L) (c : Collected L T) (taken : List (List ℕ)) → ArePlaced c taken (by_group 0 (length (groups c.selected)) (worked rules c.world (tasks_from (groups c.selected) 0 taken)))
are_placed rules c taken r m =
    let gs = groups c.selected in
    let o = somewhere rules c.world gs 0 taken r (from_group 0 (length gs) (worked rules c.world (tasks_from gs 0 taken)) r m) in
    let i = o.is_of in
    let n = o.worker in
    let z : n ≡ i.at.worker = (let b = i.by in omega (arith, b)) in
    (i.at, i.is, subst (λ (k : ℕ). IsMember i.at.group (taken_by taken k)) z i.took, i.of)

-- each row has one place
pub as_many : {L : Language} {T : Type 0} (c : Collected L T) (taken : List (List ℕ)) (rows_reported : List (ReportRow L)) → ArePlaced c taken rows_reported → length (filter_map (λ r. r.task.place) rows_reported) ≡ length rows_reported
as_many c taken [] p = refl
as_many {L} c taken (r ∷ rows_reported) p =
    let one = p r (inl refl) in
    rw one.1 (ap suc (as_many c taken rows_reported (λ s m. p s (inr m))))

map_length : {A B : Type 0} (xs : List A) (f : A → B) → length (map f xs) ≡ length xs
map_length [] f = refl
map_length (x ∷ xs) f = ap suc (map_length xs f)

-- without workers no row has a place
all_none : {L : Language} (rows_reported : List (ReportRow L)) → ((r : ReportRow L) → IsMember r rows_reported → r.task.place ≡ None) → filter_map (λ (r : ReportRow L). r.task.place) rows_reported ≡ []
all_none [] law = refl
all_none {L} (r ∷ rows_reported) law = rw (law r (inl refl)) (all_none rows_reported (λ s m. law s (inr m)))

none_alone : (cs : List SelectedItem) (t : Task) → IsMember t (map (task None) cs) → t.place ≡ None
none_alone [] t m = absurd m
none_alone (c ∷ cs) t (inl e) = ap (λ (u : Task). u.place) e
none_alone (c ∷ cs) t (inr m) = none_alone cs t m

unrun_tasks : (L : Language) (tasks : List Task) → map (row_task {L = L}) (map (λ t. report_row t [] []) tasks) ≡ tasks
unrun_tasks L [] = refl
unrun_tasks L (t ∷ ts) = ap (λ (l : List Task). t ∷ l) (unrun_tasks L ts)

-- rows of tasks without places
of_alone : {L : Language} (cs : List SelectedItem) (rows_reported : List (ReportRow L)) (rest : List Task) → map (task None) cs ≡ map row_task rows_reported ++ rest → filter_map (λ (r : ReportRow L). r.task.place) rows_reported ≡ []
of_alone {L} cs rows_reported rest e = all_none rows_reported (λ r m. none_alone cs r.task (subst (λ (ts : List Task). IsMember r.task ts) (sym e) (In-left r.task (map row_task rows_reported) rest (In-task r rows_reported m))))

module _ {World Value Thrown Rest Source Table : Type 0} (holds : List ℕ → Source → Type 0) (profile : Profile (report_language World Value Thrown Rest) Source Table) (options : Options) (c : Collected (report_language World Value Thrown Rest) Table) (taken : List (List ℕ)) where
  pub told_places : ArePlaced c taken (rows_reported (profile.rules options c.table) options c taken) → length (places_told holds profile options c taken) ≡ length (reports_told holds profile options c taken)
  told_places p =
      let rs = rows_reported (profile.rules options c.table) options c taken in
      as_many c taken rs p ∙ sym (map_length rs (report_of holds profile options c.table))

  abbrev Bare : List (ReportRow (report_language World Value Thrown Rest)) → Type 0
  Bare rs = filter_map (λ (r : ReportRow (report_language World Value Thrown Rest)). r.task.place) rs ≡ []

  choose_none : (collect failed one : Bool) → one ≡ true → Bare (cond collect (map (λ t. report_row t [] []) (single_thread c)) (cond failed [] (cond one (session_rows (profile.rules options c.table) c.world options.maxfail (single_thread c)) (by_group 0 (length (groups c.selected)) (worked (profile.rules options c.table) c.world (tasks_from (groups c.selected) 0 taken))))))
  choose_none true failed one e = of_alone c.selected (map (λ t. report_row t [] []) (single_thread c)) [] (sym (append-nil (map row_task (map (λ t. report_row t [] []) (single_thread c))) ∙ unrun_tasks (report_language World Value Thrown Rest) (single_thread c)))
  choose_none false true one e = refl
  choose_none false false true e = (let rs = session_rows (profile.rules options c.table) c.world options.maxfail (single_thread c) in let f = front_tasks options.maxfail 0 (single_thread c) rs (are_rows (profile.rules options c.table) c.world options.maxfail (single_thread c)) in of_alone c.selected rs f.0 f.1)
  choose_none false false false e = cc

  pub no_place : workers_of options c ≡ 0 → places_told holds profile options c taken ≡ []
  no_place e = choose_none options.collect_only (not_empty c.errors) (eqb (workers_of options c) 0) (eq-eqb (workers_of options c) 0 e)
