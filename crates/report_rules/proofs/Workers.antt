-- The rows of workers, and what is reported.
use Rattle.std.proofs.Common.{◌≡◌, ℕ, zero, suc, ◌+◌, ◌<◌, ◌≤◌, Bool, true, false, cond, ◌&&◌, List, [], ◌∷◌, ◌++◌, map, length, inl, inr, refl, sym, ap, ap₂, ◌∙◌, eqb, eq-eqb, arith, flat_map, MatchBool, Option, None}
use Rattle.std.proofs.lemmas.Bool.{cases_eq, ne_eqb}
use Rattle.std.specs.List.{filter}
use Rattle.cli_words.specs.declared.options.Options.{Options}
use Rattle.report_parts.specs.Outcomes.{not_empty}
use Rattle.report_parts.specs.declared.report.Place.{Place}
use Rattle.report_rules.proofs.Lists.{filter_all, filter_app, filter_none, map_append, map_filter, map_map, map_same, repeat, repeat_add, repeat_one}
use Rattle.report_rules.proofs.Once.{all_tasks, are_rows, stops}
use Rattle.report_rules.specs.Collected.{SelectedItem, Collected}
use Rattle.report_rules.specs.Groups.{group_at, groups}
use Rattle.report_rules.specs.Once.{AreReported, AreRows, reported, row_bads, row_chosen, row_task}
use Rattle.report_rules.specs.Report.{IsTaken, single_thread, rows_reported, runs, reached_maxfail, workers_of}
use Rattle.report_rules.specs.Rows.{ReportRow, Task, ran, report_row, session_rows, task}
use Rattle.report_rules.specs.Shares.{by_group, in_group, has_group, group_place, tasks_from, tasks_of, worked}
use Rattle.session_rules.specs.Session.{has_stopped, reaches}
use Rattle.session_rules.specs.World.{Language, Rules}
use Rattle.share_files.specs.Deal.{Share, times, times_in}

abbrev pub chosen_of : Task → SelectedItem
chosen_of t = t.chosen

abbrev pub at_group : ℕ → Task → Bool
at_group g t = has_group g t.place

pub chosen_tasks : (p : Option Place) (cs : List SelectedItem) → map chosen_of (map (task p) cs) ≡ cs
chosen_tasks p cs = map_map chosen_of (task p) cs ∙ map_same cs

own_tasks : (gs : List (List SelectedItem)) (g k : ℕ) (l : List ℕ) → map chosen_of (filter (at_group g) (tasks_of gs k l)) ≡ repeat (times g l) (group_at gs g)
own_tasks gs g k [] = refl
own_tasks gs g k (h ∷ hs) =
    let mine = map (task (group_place h k)) (group_at gs h) in
    let more = tasks_of gs k hs in
    ap (λ (l : List Task). map chosen_of l) (filter_app (at_group g) mine more)
    ∙ (map_append chosen_of (filter (at_group g) mine) (filter (at_group g) more)
    ∙ elim (cases_eq h g) [
      | inl e ↦
          (let one : suc (times g hs) ≡ times g (h ∷ hs) = rw (eq-eqb h g e) (omega arith) in
          let all : filter (at_group g) mine ≡ mine = filter_all (at_group g) (task (group_place h k)) (λ c. eq-eqb h g e) (group_at gs h) in
          let same : map chosen_of (filter (at_group g) mine) ≡ group_at gs g = ap (λ (l : List Task). map chosen_of l) all ∙ (chosen_tasks (group_place h k) (group_at gs h) ∙ ap (λ (n : ℕ). group_at gs n) e) in
          ap (λ (l : List SelectedItem). l ++ map chosen_of (filter (at_group g) more)) same
          ∙ (ap (λ (l : List SelectedItem). group_at gs g ++ l) (own_tasks gs g k hs) ∙ ap (λ (n : ℕ). repeat n (group_at gs g)) one))
      | inr ne ↦
          (let no : times g hs ≡ times g (h ∷ hs) = rw (ne_eqb h g ne) (omega arith) in
          let none : filter (at_group g) mine ≡ [] = filter_none (at_group g) (task (group_place h k)) (λ c. ne_eqb h g ne) (group_at gs h) in
          ap (λ (l : List Task). map chosen_of l ++ map chosen_of (filter (at_group g) more)) none
          ∙ (own_tasks gs g k hs ∙ ap (λ (n : ℕ). repeat n (group_at gs g)) no))
    ])

all_own : (gs : List (List SelectedItem)) (g k : ℕ) (ls : List (List ℕ)) → map chosen_of (filter (at_group g) (flat_map (λ l. l) (tasks_from gs k ls))) ≡ repeat (times_in g ls) (group_at gs g)
all_own gs g k [] = refl
all_own gs g k (l ∷ ls) =
    let mine = tasks_of gs k l in
    let more = flat_map (λ x. x) (tasks_from gs (k + 1) ls) in
    ap (λ (x : List Task). map chosen_of x) (filter_app (at_group g) mine more)
    ∙ (map_append chosen_of (filter (at_group g) mine) (filter (at_group g) more)
    ∙ (ap (λ (x : List SelectedItem). x ++ map chosen_of (filter (at_group g) more)) (own_tasks gs g k l)
    ∙ (ap (λ (x : List SelectedItem). repeat (times g l) (group_at gs g) ++ x) (all_own gs g (k + 1) ls)
    ∙ repeat_add (times g l) (times_in g ls) (group_at gs g))))

worked_tasks : {L : Language} (rules : Rules L) (world : L.World) (shares : List (List Task)) → map row_task (worked rules world shares) ≡ flat_map (λ l. l) shares
worked_tasks rules world [] = refl
worked_tasks {L} rules world (l ∷ ls) =
    map_append row_task (session_rows rules world 0 l) (worked rules world ls)
    ∙ (ap (λ (x : List Task). x ++ map row_task (worked rules world ls)) (all_tasks rules world l) ∙ ap (λ (x : List Task). l ++ x) (worked_tasks rules world ls))

-- the rows of a group have its items
group_rows : {L : Language} (g : ℕ) (rows_reported : List (ReportRow L)) → reported (filter (in_group g) rows_reported) ≡ map chosen_of (filter (at_group g) (map row_task rows_reported))
group_rows {L} g rows_reported = sym (map_map chosen_of row_task (filter (in_group g) rows_reported)) ∙ ap (λ (l : List Task). map chosen_of l) (map_filter (at_group g) row_task rows_reported)

abbrev gather : (ℕ → List SelectedItem) → ℕ → ℕ → List SelectedItem
gather f g zero = []
gather f g (suc count) = f g ++ gather f (g + 1) count

gathered : {L : Language} (f : ℕ → List SelectedItem) (rows_reported : List (ReportRow L)) (g count : ℕ) → ((h : ℕ) → g ≤ h → h < g + count → reported (filter (in_group h) rows_reported) ≡ f h) → reported (by_group g count rows_reported) ≡ gather f g count
gathered f rows_reported g zero law = refl
gathered {L} f rows_reported g (suc count) law =
    map_append row_chosen (filter (in_group g) rows_reported) (by_group (g + 1) count rows_reported)
    ∙ (ap (λ (l : List SelectedItem). l ++ reported (by_group (g + 1) count rows_reported)) (law g (omega arith) (omega arith))
    ∙ ap (λ (l : List SelectedItem). f g ++ l) (gathered f rows_reported (g + 1) count (λ h le lt. law h (omega (arith, le)) (omega (arith, lt)))))

gather_shift : (f h : ℕ → List SelectedItem) → ((n : ℕ) → f (n + 1) ≡ h n) → (g count : ℕ) → gather f (g + 1) count ≡ gather h g count
gather_shift f h law g zero = refl
gather_shift f h law g (suc count) =
    ap (λ (l : List SelectedItem). l ++ gather f (g + 1 + 1) count) (law g) ∙ ap (λ (l : List SelectedItem). h g ++ l) (gather_shift f h law (g + 1) count)

gather_all : (gs : List (List SelectedItem)) → gather (group_at gs) 0 (length gs) ≡ flat_map (λ g. g) gs
gather_all [] = refl
gather_all (x ∷ gs) =
    ap (λ (l : List SelectedItem). x ++ l)
    (gather_shift (group_at (x ∷ gs)) (group_at gs) (λ n. (let e : n + 1 ≡ suc n = omega arith in ap (λ (m : ℕ). group_at (x ∷ gs) m) e)) 0 (length gs) ∙ gather_all gs)

pub workers_reported : {L : Language} (rules : Rules L) (world : L.World) (gs : List (List SelectedItem)) (n : ℕ) (taken : List (List ℕ)) → Share (length gs) n taken → reported (by_group 0 (length gs) (worked rules world (tasks_from gs 0 taken))) ≡ flat_map (λ g. g) gs
workers_reported {L} rules world gs n taken share =
    let rs = worked rules world (tasks_from gs 0 taken) in
    gathered (group_at gs) rs 0 (length gs)
    (λ h low lt. (let lt0 : h < length gs = omega (arith, lt) in
    group_rows h rs ∙ (ap (λ (l : List Task). map chosen_of (filter (at_group h) l)) (worked_tasks rules world (tasks_from gs 0 taken))
    ∙ (all_own gs h 0 taken ∙ (ap (λ (m : ℕ). repeat m (group_at gs h)) (share.once.each h low lt0) ∙ repeat_one (group_at gs h))))))
    ∙ gather_all gs

module _ {L : Language} {T : Type 0} (rules : Rules L) (options : Options) (c : Collected L T) (taken : List (List ℕ)) where
  abbrev Rows : List (ReportRow L) → Type 0
  Rows rs = AreRows options.maxfail 0 (single_thread c) rs × (reached_maxfail rules options c ≡ reaches options.maxfail (row_bads rs))

  alone_rows : runs options c ≡ true → eqb (workers_of options c) 0 ≡ true → Rows (session_rows rules c.world options.maxfail (single_thread c))
  alone_rows e f =
      let stop : reached_maxfail rules options c ≡ has_stopped options.maxfail (ran rules c.world options.maxfail (single_thread c)) = ap₂ (λ (a b : Bool). (a && b) && has_stopped options.maxfail (ran rules c.world options.maxfail (single_thread c))) e f in
      (are_rows rules c.world options.maxfail (single_thread c), stop ∙ stops rules c.world options.maxfail (single_thread c))

  choose : (collect failed one : Bool) → options.collect_only ≡ collect → not_empty c.errors ≡ failed → eqb (workers_of options c) 0 ≡ one
      → MatchBool one (taken ≡ []) (Share (length (groups c.selected)) (workers_of options c) taken)
      → (let rs = cond collect (map (λ t. report_row t [] []) (single_thread c)) (cond failed [] (cond one (session_rows rules c.world options.maxfail (single_thread c)) (by_group 0 (length (groups c.selected)) (worked rules c.world (tasks_from (groups c.selected) 0 taken))))) in
      MatchBool collect (rs ≡ map (λ t. report_row t [] []) (single_thread c)) (MatchBool failed (rs ≡ []) (MatchBool one (Rows rs) (reported rs ≡ flat_map (λ g. g) (groups c.selected)))))
  choose true failed one e f g t = refl
  choose false true one e f g t = refl
  choose false false true e f g t = (let r : runs options c ≡ true = rw (e, f) refl in alone_rows r g)
  choose false false false e f g t = workers_reported rules c.world (groups c.selected) (workers_of options c) taken t

  pub are_reported : IsTaken options c taken → AreReported rules options c (rows_reported rules options c taken)
  are_reported t = choose options.collect_only (not_empty c.errors) (eqb (workers_of options c) 0) refl refl refl t
