-- What a run on one thread gives.
use Rattle.std.specs.Prelude.{◌≡◌, ℕ, Bool, not, ◌&&◌, List, [], ◌∷◌, None, map}
use Rattle.cli_words.specs.Options.{asks_for_workers}
use Rattle.cli_words.specs.declared.options.Options.{Options}
use Rattle.worker_sessions.specs.collect_tree.collect_items.declared.found.FoundSuite.{FoundSuite}
use Rattle.worker_sessions.specs.collect_tree.Collection.{item_numbered, selected_by}
use Rattle.worker_sessions.specs.collect_tree.file_source.Sources.{HoldsSource}
use Rattle.worker_sessions.specs.run_items.fixture_world.Items.{item_in_session}
use Rattle.report_parts.specs.Outcomes.{not_empty}
use Rattle.report_parts.specs.declared.report.CollectReport.{CollectReport}
use Rattle.report_parts.specs.declared.report.ItemReport.{ItemReport}
use Rattle.worker_sessions.specs.run_items.report_rules.Collected.{Collected, SelectedItem}
use Rattle.worker_sessions.specs.run_items.report_rules.Fits.{chosen_item}
use Rattle.worker_sessions.specs.run_items.report_rules.Items.{item_report}
use Rattle.worker_sessions.specs.run_items.report_rules.Report as rules
use Rattle.worker_sessions.specs.run_items.report_rules.Rows.{ran, session_rows, task}
use Rattle.worker_sessions.specs.run_items.Stands.{plan_fixture, plan_rules, planned}
use Rattle.worker_sessions.specs.run_items.declared.plan.Plan.{Plan}
use Rattle.runtest_loop.specs.Course.{chosen_in}
use Rattle.runtest_loop.specs.Fed.{numbers_at}
use Rattle.worker_sessions.specs.run_items.runtest_rules.Language.{python}
use Rattle.worker_sessions.specs.run_items.runtest_rules.Rules.{rules as tests}
use Rattle.session_rules.specs.Fits.{Distinct}
use Rattle.session_rules.specs.Session.{has_stopped}
use Rattle.session_rules.specs.World.{Item}
use Rattle.worker_sessions.specs.run_items.source_meaning.Meaning.{SourceWorld}
use Rattle.worker_sessions.specs.run_items.test_suite.declared.suite.Suite.{Suite}
use Rattle.pytest_core.specs.Profile.{profile}

-- what was collected: the items of a suite with these numbers, in files at these places
abbrev pub collected_of : FoundSuite → List ℕ → List ℕ → ℕ → List CollectReport → SourceWorld → Collected python Suite
collected_of found places numbers deselected errors w = record {
  table = found.suite;
  world = w;
  selected = map (selected_by found places) numbers;
  deselected = deselected;
  errors = errors;
}

-- what a session knows of the items with these numbers
abbrev pub items_known : FoundSuite → List ℕ → List Item
items_known found numbers = map (λ n. item_in_session found.table (item_numbered found.suite n)) numbers

-- no two of them are one
abbrev pub AreApart : FoundSuite → List ℕ → Type 0
AreApart found numbers = Distinct (items_known found numbers)

-- whether workers run these items: where words ask for workers, no file could not be collected, and there are items
abbrev pub wants_workers : Options → List ℕ → List CollectReport → Bool
wants_workers options numbers errors = asks_for_workers options && (not (not_empty errors) && not_empty numbers)

-- the reports of a run of these items, and whether it stopped early, are those of the report, whatever the places of the files and the
-- number of the items that are not run
pub record IsRunAnswer (options : Options) (found : FoundSuite) (numbers : List ℕ) (errors : List CollectReport) (w : SourceWorld) (told : List ItemReport) (early : Bool) : Type 0 where
  pub reports : (places : List ℕ) (deselected : ℕ) → told ≡ rules.reports_told HoldsSource profile options (collected_of found places numbers deselected errors w) []
  pub stopped : (places : List ℕ) (deselected : ℕ) → early ≡ rules.reached_maxfail (tests options found.suite) options (collected_of found places numbers deselected errors w)

-- the answer of a run by a plan: the reports of its session, and whether that stopped early
pub record IsRunOf (plan : Plan) (options : Options) (chosen : List SelectedItem) (w : SourceWorld) (told : List ItemReport) (early : Bool) : Type 0 where
  pub reports : map (item_report options (plan_rules plan).scope (plan_fixture plan)) (session_rows (plan_rules plan) w options.maxfail (map (task None) chosen)) ≡ told
  pub stopped : has_stopped options.maxfail (ran (plan_rules plan) w options.maxfail (map (task None) chosen)) ≡ early

-- the items of the first group
abbrev pub chosen_first : Plan → List (List ℕ) → List SelectedItem
chosen_first plan groups = chosen_in (planned plan) plan.run.suite.items (numbers_at groups 0)

unfoldable pub RunsFirst : Plan → Options → List (List ℕ) → SourceWorld → List ItemReport → Bool → Type 0
RunsFirst plan options groups w told early = Distinct (map chosen_item (chosen_first plan groups)) → IsRunOf plan options (chosen_first plan groups) w told early

-- the only group
abbrev pub IsOneGroup : List (List ℕ) → Type 0
IsOneGroup groups = groups ≡ numbers_at groups 0 ∷ []
