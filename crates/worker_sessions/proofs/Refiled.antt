-- No report looks at the number of an item's file, on one thread.
use Rattle.std.proofs.Common.{◌≡◌, ℕ, Bool, true, false, cond, eqb, List, [], ◌∷◌, ◌++◌, map, Option, None, Some, refl, sym, ap, ap₂, ◌∙◌}
use Rattle.std.specs.Prelude.{flat_map}
use Rattle.cli_words.specs.declared.options.Options.{Options}
use Rattle.report_parts.specs.Outcomes.{outcome_of}
use Rattle.report_parts.specs.declared.outcome.Outcome.{Outcome}
use Rattle.report_parts.specs.declared.report.ItemReport.{ItemReport}
use Rattle.run_items.specs.report_rules.Collected.{FixtureTexts, SelectedItem, report_language}
use Rattle.run_items.specs.report_rules.Items.{item_report}
use Rattle.run_items.specs.report_rules.Rows.{Arrival, ReportRow, arrival_of, arrivals_of, by_item, task_item, ran, report_row, session_rows, task, with_ends}
use Rattle.run_items.specs.report_rules.Shown.{arrival_with, event_lines, outcome_lines, phase_lines, shown_phase, teardown_lines}
use Rattle.session_rules.specs.Reports.{events_of}
use Rattle.session_rules.specs.Session.{session, initial_state}
use Rattle.session_rules.specs.Teardown.{PhaseEnd}
use Rattle.session_rules.specs.World.{Call, Phase, Rules, SetUp, Teardown}
use Rattle.session_types.specs.declared.journal.Event.{Event}
use Rattle.session_types.specs.declared.journal.Event.TheVariants.{Up, UpFailed, DownBegins, Down, CallBegins, CallEnds}
use Rattle.session_types.specs.declared.scope.Scope.{Scope}

-- an item without the number of its file
abbrev pub unfiled : SelectedItem → SelectedItem
unfiled c = record c { file = 0 }

abbrev arrived : Arrival → Arrival
arrived a = record { made = a.made; item = unfiled a.item }

appended : {A B : Type 0} (f : A → B) (xs ys : List A) → map f (xs ++ ys) ≡ map f xs ++ map f ys
appended f [] ys = refl
appended f (x ∷ xs) ys = ap (λ zs. f x ∷ zs) (appended f xs ys)

one_arrival : (c : SelectedItem) (e : Event) → map arrived (arrival_of c e) ≡ arrival_of (unfiled c) e
one_arrival c (Up made) = refl
one_arrival c (UpFailed made) = refl
one_arrival c (DownBegins n) = refl
one_arrival c (Down n raised) = refl
one_arrival c (CallBegins node given) = refl
one_arrival c (CallEnds node) = refl

many_arrivals : (c : SelectedItem) (es : List Event) → map arrived (flat_map (arrival_of c) es) ≡ flat_map (arrival_of (unfiled c)) es
many_arrivals c [] = refl
many_arrivals c (e ∷ es) = appended arrived (arrival_of c e) (flat_map (arrival_of c) es) ∙ ap₂ (λ (a b : List Arrival). a ++ b) (one_arrival c e) (many_arrivals c es)

same_items : (cs : List SelectedItem) → map task_item (map (task None) (map unfiled cs)) ≡ map task_item (map (task None) cs)
same_items [] = refl
same_items (c ∷ cs) = ap (λ is. c.item ∷ is) (same_items cs)

-- lines
module _ (scope : ℕ → Scope) (fixture : ℕ → FixtureTexts) where
  torn_by : (b : Bool) (a : Arrival) (rest other : Option Arrival) → teardown_lines scope fixture rest ≡ teardown_lines scope fixture other
      → teardown_lines scope fixture (cond b (Some a) rest) ≡ teardown_lines scope fixture (cond b (Some (arrived a)) other)
  torn_by true a rest other e = refl
  torn_by false a rest other e = e

  torn : (n : ℕ) (arrivals : List Arrival) → teardown_lines scope fixture (arrival_with n arrivals) ≡ teardown_lines scope fixture (arrival_with n (map arrived arrivals))
  torn n [] = refl
  torn n (a ∷ arrivals) = torn_by (eqb n a.made.n) a (arrival_with n arrivals) (arrival_with n (map arrived arrivals)) (torn n arrivals)

  event_as : (arrivals : List Arrival) (c : SelectedItem) (e : Event) → event_lines scope fixture arrivals c e ≡ event_lines scope fixture (map arrived arrivals) (unfiled c) e
  event_as arrivals c (Up made) = refl
  event_as arrivals c (UpFailed made) = refl
  event_as arrivals c (DownBegins n) = refl
  event_as arrivals c (Down n raised) = torn n arrivals
  event_as arrivals c (CallBegins node given) = refl
  event_as arrivals c (CallEnds node) = refl

  events_as : (arrivals : List Arrival) (c : SelectedItem) (es : List Event) → flat_map (event_lines scope fixture arrivals c) es ≡ flat_map (event_lines scope fixture (map arrived arrivals) (unfiled c)) es
  events_as arrivals c [] = refl
  events_as arrivals c (e ∷ es) = ap₂ (λ (a b : List (List ℕ)). a ++ b) (event_as arrivals c e) (events_as arrivals c es)

  outcome_as : (phase : Phase) (c : SelectedItem) (o : Option Outcome) → outcome_lines scope fixture phase c o ≡ outcome_lines scope fixture phase (unfiled c) o
  outcome_as phase c None = refl
  outcome_as SetUp c (Some o) = refl
  outcome_as Call c (Some o) = refl
  outcome_as Teardown c (Some o) = refl

shown_by : (b : Bool) (a o : List (List ℕ)) → a ≡ o → cond b a [] ≡ cond b o []
shown_by b a o e = ap (λ (l : List (List ℕ)). cond b l []) e

module _ {World Value Thrown Rest : Type 0} where
  arrivals_as : (c : SelectedItem) (ends : List (PhaseEnd (report_language World Value Thrown Rest))) → map arrived (arrivals_of c ends) ≡ arrivals_of (unfiled c) ends
  arrivals_as c ends = many_arrivals c (events_of ends)

  module _ (options : Options) (scope : ℕ → Scope) (fixture : ℕ → FixtureTexts) where
    phases_as : (arrivals : List Arrival) (c : SelectedItem) (ends : List (PhaseEnd (report_language World Value Thrown Rest)))
        → flat_map (phase_lines scope fixture arrivals c) ends ≡ flat_map (phase_lines scope fixture (map arrived arrivals) (unfiled c)) ends
    phases_as arrivals c [] = refl
    phases_as arrivals c (e ∷ ends) =
        ap₂ (λ (a b : List (List ℕ)). (a ++ b)) (ap₂ (λ (a b : List (List ℕ)). a ++ b) (events_as scope fixture arrivals c e.events) (outcome_as scope fixture e.phase c (outcome_of (shown_phase scope fixture e.phase) e.told.end))) (phases_as arrivals c ends)

    -- a row
    abbrev refiled : ReportRow (report_language World Value Thrown Rest) → ReportRow (report_language World Value Thrown Rest)
    refiled r = report_row (task None (unfiled r.task.chosen)) r.ends (map arrived r.arrivals)

    abbrev report_with : ReportRow (report_language World Value Thrown Rest) → List (List ℕ) → ItemReport
    report_with r lines = record (item_report options scope fixture r) { shown_lines = lines }

    row_as : (r : ReportRow (report_language World Value Thrown Rest)) → item_report options scope fixture (refiled r) ≡ item_report options scope fixture r
    row_as r = ap (report_with r) (shown_by options.setup_show _ _ (sym (phases_as r.arrivals r.task.chosen r.ends)))

    -- the rows of a session
    rows_as : (arrivals : List Arrival) (cs : List SelectedItem) (ends : List (List (PhaseEnd (report_language World Value Thrown Rest))))
        → map (item_report options scope fixture) (with_ends (map arrived arrivals) (map (task None) (map unfiled cs)) ends)
        ≡ map (item_report options scope fixture) (with_ends arrivals (map (task None) cs) ends)
    rows_as arrivals [] ends = refl
    rows_as arrivals (c ∷ cs) [] = refl
    rows_as arrivals (c ∷ cs) (mine ∷ more) =
        let now : map arrived (arrivals ++ arrivals_of c mine) ≡ map arrived arrivals ++ arrivals_of (unfiled c) mine
        = appended arrived arrivals (arrivals_of c mine) ∙ ap (λ (a : List Arrival). map arrived arrivals ++ a) (arrivals_as c mine) in
        ap₂ (λ (x : ItemReport) xs. x ∷ xs)
        (ap (λ (a : List Arrival). item_report options scope fixture (report_row (task None (unfiled c)) mine a)) (sym now) ∙ row_as (report_row (task None c) mine (arrivals ++ arrivals_of c mine)))
        (ap (λ (a : List Arrival). map (item_report options scope fixture) (with_ends a (map (task None) (map unfiled cs)) more)) (sym now) ∙ rows_as (arrivals ++ arrivals_of c mine) cs more)

    -- WHAT IS REPORTED of items is what is reported of them without the numbers of their files
    pub reports_as : (rules : Rules (report_language World Value Thrown Rest)) (w : World) (maxfail : ℕ) (cs : List SelectedItem)
        → map (item_report options scope fixture) (session_rows rules w maxfail (map (task None) (map unfiled cs))) ≡ map (item_report options scope fixture) (session_rows rules w maxfail (map (task None) cs))
    reports_as rules w maxfail cs =
        ap (λ items. map (item_report options scope fixture) (with_ends [] (map (task None) (map unfiled cs)) (by_item (session rules maxfail items (initial_state w)).ends))) (same_items cs)
        ∙ rows_as [] cs (by_item (ran rules w maxfail (map (task None) cs)).ends)

  pub ran_as : (rules : Rules (report_language World Value Thrown Rest)) (w : World) (maxfail : ℕ) (cs : List SelectedItem)
      → ran rules w maxfail (map (task None) (map unfiled cs)) ≡ ran rules w maxfail (map (task None) cs)
  ran_as rules w maxfail cs = ap (λ items. session rules maxfail items (initial_state w)) (same_items cs)
