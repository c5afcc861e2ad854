-- What is reported of items that do not run.
use Rattle.std.specs.Prelude.{◌≡◌, ℕ, List, [], None, map}
use Rattle.cli_words.specs.declared.options.Options.{Options}
use Rattle.fixture_table.specs.Tables.{TableValue}
use Rattle.fixture_world.specs.Items.{selected_item}
use Rattle.report_parts.specs.declared.report.ItemReport.{ItemReport}
use Rattle.report_parts.specs.declared.report.PhaseEnd.TheVariants.{NotRun}
use Rattle.runtest_reports.specs.report_rules.Collected.{FixtureTexts, SelectedItem}
use Rattle.runtest_reports.specs.report_rules.Items.{item_report}
use Rattle.runtest_reports.specs.report_rules.Rows.{report_row, task}
use Rattle.fixture_world.specs.runtest_rules.Language.{python}
use Rattle.session_types.specs.declared.scope.Scope.{Scope}
use Rattle.test_suite.specs.Suites.{numbered_item}
use Rattle.test_suite.specs.declared.item.Item.{Item}

-- the report of an item that did not run
abbrev pub unrun_report : Item → ItemReport
unrun_report i =
    record {
      node_id = i.node_id;
      title = i.title;
      file = i.file;
      setup = NotRun;
      call = NotRun;
      teardown = NotRun;
      shown_lines = [];
      captured = ([], [], []);
    }

-- the items with these numbers, each in the file that has this number
abbrev pub selected_items : TableValue → (ℕ → ℕ) → List Item → List ℕ → List SelectedItem
selected_items table files items numbers = map (λ n. selected_item table (files n) (numbered_item items n)) numbers

-- the reports of items that do not run: there are no lines of `--setup-show` either
unfoldable pub AreNotRun : List Item → List ℕ → List ItemReport → Type 0
AreNotRun items numbers reports =
    (table : TableValue) (files : ℕ → ℕ) (options : Options) (scope : ℕ → Scope) (fixture : ℕ → FixtureTexts)
    → map (item_report options scope fixture) (map (λ t. report_row {L = python} t [] []) (map (task None) (selected_items table files items numbers))) ≡ reports
