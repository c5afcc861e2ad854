-- The items that run are the selected ones.
use Rattle.std.proofs.Common.{◌≡◌, ◌<◌, ◌≤◌, ℕ, Bool, false, List, [], ◌∷◌, All, map, length, None, refl, sym, ap, subst, ◌∙◌}
use Rattle.cli_words.specs.declared.options.Options.{Options}
use Rattle.worker_sessions.specs.collect_tree.collect_items.declared.found.FoundSuite.{FoundSuite}
use Rattle.worker_sessions.specs.collect_tree.Collection.{item_numbered, selected_by}
use Rattle.worker_sessions.specs.collect_tree.file_source.Sources.{HoldsSource}
use Rattle.worker_sessions.specs.run_items.fixture_world.Items.{item_in_session}
use Rattle.report_parts.specs.Limits.{most_items}
use Rattle.report_parts.specs.Outcomes.{not_empty}
use Rattle.report_parts.specs.declared.report.CollectReport.{CollectReport}
use Rattle.report_parts.specs.declared.report.ItemReport.{ItemReport}
use Rattle.worker_sessions.specs.run_items.report_rules.Collected.{SelectedItem}
use Rattle.worker_sessions.specs.run_items.report_rules.Fits.{chosen_item}
use Rattle.worker_sessions.specs.run_items.report_rules.Items.{item_report}
use Rattle.worker_sessions.specs.run_items.report_rules.Report as rules
use Rattle.worker_sessions.specs.run_items.report_rules.Rows.{ran, session_rows, task}
use Rattle.worker_sessions.specs.run_items.Texts.{fixture_texts}
use Rattle.worker_sessions.specs.run_items.Runs.{BeginsPlan}
use Rattle.runtest_loop.specs.Fed.{numbers_at, numbers_in_range}
use Rattle.runtest_loop.specs.Received.{AreFirst}
use Rattle.runtest_loop.specs.Run.{Begins}
use Rattle.worker_sessions.specs.run_items.runtest_rules.Rules.{rules as tests}
use Rattle.session_rules.specs.Fits.{Distinct}
use Rattle.session_rules.specs.Session.{has_stopped}
use Rattle.session_rules.specs.World.{Item as SessionItem}
use Rattle.worker_sessions.specs.run_items.source_meaning.Meaning.{SourceWorld}
use Rattle.pytest_core.specs.Profile.{profile}
use Rattle.worker_sessions.proofs.Plans.{chosen_as, chosen_by, every, unfiled_as}
use Rattle.worker_sessions.proofs.Refiled.{ran_as, reports_as}
use Rattle.worker_sessions.specs.Sessions.{plan_by}
use Rattle.pytest_core.specs.Run.{AreApart, IsRunAnswer, IsOneGroup, IsRunOf, RunsFirst, chosen_first, collected_of, items_known, wants_workers}
use Rattle.pytest_core.proofs.NoWorkers.{rows_ran, single, stopped_ran}

-- the one group
pub in_range : (count : ℕ) (ns : List ℕ) (groups : List (List ℕ)) → groups ≡ ns ∷ [] → All (λ n. n < count) ns → numbers_in_range count groups
in_range count ns groups e within = subst (numbers_in_range count) (sym e) (every (λ n. n < count) ns within, tt)

pub is_one : (ns : List ℕ) (groups : List (List ℕ)) → groups ≡ ns ∷ [] → IsOneGroup groups
is_one ns groups e = subst IsOneGroup (sym e) refl

pub has_few : (ns : List ℕ) (groups : List (List ℕ)) → groups ≡ ns ∷ [] → length ns ≤ most_items → length (numbers_at groups 0) ≤ most_items
has_few ns groups e few = subst (λ gs. length (numbers_at gs 0) ≤ most_items) (sym e) few

known_as : (options : Options) (found : FoundSuite) (ns : List ℕ) → map chosen_item (map (chosen_by (plan_by options found)) ns) ≡ items_known found ns
known_as options found [] = refl
known_as options found (n ∷ ns) = ap (λ (is : List SessionItem). item_in_session found.table (item_numbered found.suite n) ∷ is) (known_as options found ns)

-- WHAT A RUN OF THE SELECTED ITEMS GIVES
module _ (options : Options) (found : FoundSuite) (ns : List ℕ) (w : SourceWorld) (within : All (λ n. n < length found.suite.items) ns) where
  are_chosen : chosen_first (plan_by options found) (ns ∷ []) ≡ map (chosen_by (plan_by options found)) ns
  are_chosen = chosen_as (plan_by options found) ns (every _ ns within)

  abbrev Shown : List SelectedItem → List ItemReport
  Shown cs = map (item_report options (tests options found.suite).scope (fixture_texts found.suite)) (session_rows (tests options found.suite) w options.maxfail (map (task None) cs))

  abbrev Stopped : List SelectedItem → Bool
  Stopped cs = has_stopped options.maxfail (ran (tests options found.suite) w options.maxfail (map (task None) cs))

  shown_as : (places : List ℕ) → Shown (chosen_first (plan_by options found) (ns ∷ [])) ≡ Shown (map (selected_by found places) ns)
  shown_as places =
      ap (λ cs. Shown cs) (are_chosen ∙ unfiled_as options found places ns)
      ∙ reports_as options (tests options found.suite).scope (fixture_texts found.suite) (tests options found.suite) w options.maxfail (map (selected_by found places) ns)

  stopped_as : (places : List ℕ) → Stopped (chosen_first (plan_by options found) (ns ∷ [])) ≡ Stopped (map (selected_by found places) ns)
  stopped_as places =
      ap (λ cs. Stopped cs) (are_chosen ∙ unfiled_as options found places ns)
      ∙ ap (λ s. has_stopped options.maxfail s) (ran_as (tests options found.suite) w options.maxfail (map (selected_by found places) ns))

  apart : AreApart found ns → Distinct (map chosen_item (chosen_first (plan_by options found) (ns ∷ [])))
  apart d = subst (λ (is : List SessionItem). Distinct is) (sym (ap (map chosen_item) are_chosen ∙ known_as options found ns)) d

  answers_one : (told : List ItemReport) (early : Bool) (errors : List CollectReport) → wants_workers options ns errors ≡ false → options.collect_only ≡ false → not_empty errors ≡ false → AreApart found ns
      → RunsFirst (plan_by options found) options (ns ∷ []) w told early → IsRunAnswer options found ns errors w told early
  unfolding RunsFirst
  answers_one told early errors built running whole d h =
      let is : IsRunOf (plan_by options found) options (chosen_first (plan_by options found) (ns ∷ [])) w told early = h (apart d) in
      record {
        reports = λ places deselected. sym (ap (map (rules.report_of HoldsSource profile options found.suite)) (rows_ran options (collected_of found places ns deselected errors w) (single options found places ns deselected errors w built) running whole)
            ∙ (sym (shown_as places) ∙ is.reports));
        stopped = λ places deselected. sym (stopped_ran options (collected_of found places ns deselected errors w) (single options found places ns deselected errors w built) running whole ∙ (sym (stopped_as places) ∙ is.stopped));
      }

  -- by the one group
  pub answers : (groups : List (List ℕ)) → groups ≡ ns ∷ [] → (told : List ItemReport) (early : Bool) (errors : List CollectReport) → wants_workers options ns errors ≡ false → options.collect_only ≡ false → not_empty errors ≡ false
      → AreApart found ns → RunsFirst (plan_by options found) options groups w told early → IsRunAnswer options found ns errors w told early
  answers groups e told early errors built running whole d h =
      answers_one told early errors built running whole d (subst (λ gs. RunsFirst (plan_by options found) options gs w told early) e h)

  -- where it breaks off
  first_one : options.collect_only ≡ false → AreApart found ns → (taken : List ItemReport) → BeginsPlan (plan_by options found) options (chosen_first (plan_by options found) (ns ∷ [])) w [] taken
      → (errors : List CollectReport) → wants_workers options ns errors ≡ false → not_empty errors ≡ false → (places : List ℕ) (deselected : ℕ) → AreFirst (rules.reports_told HoldsSource profile options (collected_of found places ns deselected errors w) []) taken
  unfolding Begins
  first_one running d taken h errors built whole places deselected =
      let b = h (apart d) in
      (b.0, ap (map (rules.report_of HoldsSource profile options found.suite)) (rows_ran options (collected_of found places ns deselected errors w) (single options found places ns deselected errors w built) running whole) ∙ (sym (shown_as places) ∙ b.1))

  pub reports_first : (groups : List (List ℕ)) → groups ≡ ns ∷ [] → options.collect_only ≡ false → AreApart found ns → (taken : List ItemReport) → BeginsPlan (plan_by options found) options (chosen_first (plan_by options found) groups) w [] taken
      → (errors : List CollectReport) → wants_workers options ns errors ≡ false → not_empty errors ≡ false → (places : List ℕ) (deselected : ℕ) → AreFirst (rules.reports_told HoldsSource profile options (collected_of found places ns deselected errors w) []) taken
  reports_first groups e running d taken h =
      first_one running d taken (subst (λ gs. BeginsPlan (plan_by options found) options (chosen_first (plan_by options found) gs) w [] taken) e h)
