-- What a worker reports.
use Rattle.std.specs.Prelude.{◌≡◌, ℕ, List, None, map}
use Rattle.cli_words.specs.declared.options.Options.{Options}
use Rattle.collect_tree.specs.collect_items.declared.found.FoundSuite.{FoundSuite}
use Rattle.report_parts.specs.declared.report.ItemReport.{ItemReport}
use Rattle.run_items.specs.Stands.{plan_fixture, plan_rules}
use Rattle.run_items.specs.Texts.{fixture_texts}
use Rattle.run_items.specs.declared.plan.Plan.{Plan}
use Rattle.run_items.specs.report_rules.Collected.{Collected, SelectedItem}
use Rattle.run_items.specs.report_rules.Fits.{chosen_item}
use Rattle.run_items.specs.report_rules.Items.{item_report}
use Rattle.run_items.specs.report_rules.Rows.{session_rows, task}
use Rattle.run_items.specs.runtest_rules.Language.{python}
use Rattle.run_items.specs.runtest_rules.Rules.{rules}
use Rattle.run_items.specs.source_meaning.Meaning.{SourceWorld}
use Rattle.run_items.specs.test_suite.declared.suite.Suite.{Suite}
use Rattle.session_rules.specs.Fits.{Distinct}
use Rattle.share_files.specs.Deal.{RisesFrom}
use Rattle.worker_runs.specs.Threads.{thread_reports}

-- what the run of found items depends on: their suite, its table and the limit of steps
abbrev pub plan_by : Options → FoundSuite → Plan
plan_by options found = record { run = record { limit = options.step_limit; suite = found.suite }; table = found.table }

-- the reports of these items by a plan, from a world, where no two of them have one node: nothing stops the session early
unfoldable pub ReportsPlanned : Plan → Options → List SelectedItem → SourceWorld → List ItemReport → Type 0
ReportsPlanned plan options chosen world reports =
    Distinct (map chosen_item chosen) → reports ≡ map (item_report options (plan_rules plan).scope (plan_fixture plan)) (session_rows (plan_rules plan) world 0 (map (task None) chosen))

-- the reports of one thread on the groups that it was given of what was collected, where their numbers rise and no two selected items
-- have one node
unfoldable pub ReportsTaken : Options → Collected python Suite → List ℕ → List ItemReport → Type 0
ReportsTaken options c given reports =
    RisesFrom 0 given → Distinct (map chosen_item c.selected) → reports ≡ thread_reports (rules options c.table) (fixture_texts c.table) options c given
