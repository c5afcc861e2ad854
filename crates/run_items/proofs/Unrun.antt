-- Items that do not run.
use Rattle.std.proofs.Common.{◌≡◌, ℕ, true, false, cond, List, [], ◌∷◌, map, refl, sym, ap₂, ◌∙◌, None}
use Rattle.cli_words.specs.declared.options.Options.{Options}
use Rattle.fixture_table.specs.Tables.{TableValue}
use Rattle.fixture_world.specs.Items.{selected_item}
use Rattle.report_parts.specs.declared.report.ItemReport.{ItemReport}
use Rattle.runtest_reports.specs.report_rules.Collected.{FixtureTexts}
use Rattle.runtest_reports.specs.report_rules.Items.{item_report}
use Rattle.runtest_reports.specs.report_rules.Rows.{report_row, task}
use Rattle.run_items.specs.NotRun.{AreNotRun, selected_items, unrun_report}
use Rattle.fixture_world.specs.runtest_rules.Language.{python}
use Rattle.session_types.specs.declared.scope.Scope.{Scope}
use Rattle.test_suite.specs.Suites.{numbered_item}
use Rattle.test_suite.specs.declared.item.Item.{Item}

module _ (table : TableValue) (files : ℕ → ℕ) (options : Options) (scope : ℕ → Scope) (fixture : ℕ → FixtureTexts) where
  one_unrun : (file : ℕ) (i : Item) → item_report options scope fixture (report_row {L = python} (task None (selected_item table file i)) [] []) ≡ unrun_report i
  one_unrun file i =
      elim options.setup_show as (λ b. record (unrun_report i) { shown_lines = cond b [] [] } ≡ unrun_report i) [
        | true ↦ refl
        | false ↦ refl
      ]

  all_unrun : (items : List Item) (numbers : List ℕ)
      → map (item_report options scope fixture) (map (λ t. report_row {L = python} t [] []) (map (task None) (selected_items table files items numbers))) ≡ map (λ n. unrun_report (numbered_item items n)) numbers
  all_unrun items [] = refl
  all_unrun items (n ∷ numbers) = ap₂ (λ (r : ItemReport) (rs : List ItemReport). r ∷ rs) (one_unrun (files n) (numbered_item items n)) (all_unrun items numbers)

pub are_not_run : (items : List Item) (numbers : List ℕ) (reports : List ItemReport) → reports ≡ map (λ n. unrun_report (numbered_item items n)) numbers → AreNotRun items numbers reports
unfolding AreNotRun
are_not_run items numbers reports e = λ table files options scope fixture. all_unrun table files options scope fixture items numbers ∙ sym e
