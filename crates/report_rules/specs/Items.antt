-- What is reported of an item.
use Rattle.std.specs.Prelude.{ℕ, Bool, true, false, List, [], ◌∷◌, if◌then◌else◌}
use Rattle.cli_words.specs.declared.options.Options.{Options}
use Rattle.report_parts.specs.declared.report.ItemReport.{ItemReport}
use Rattle.report_parts.specs.declared.report.PhaseEnd.{PhaseEnd as ShownEnd}
use Rattle.report_parts.specs.declared.report.PhaseEnd.TheVariants.{NotRun}
use Rattle.report_rules.specs.Collected.{FixtureTexts, report_language}
use Rattle.report_rules.specs.Rows.{ReportRow}
use Rattle.report_rules.specs.Shown.{shown_lines}
use Rattle.session_rules.specs.Teardown.{PhaseEnd}
use Rattle.session_rules.specs.World.{Call, Phase, SetUp, Teardown}
use Rattle.session_types.specs.declared.scope.Scope.{Scope}

abbrev pub is_phase : Phase → Phase → Bool
is_phase SetUp SetUp = true
is_phase SetUp Call = false
is_phase SetUp Teardown = false
is_phase Call SetUp = false
is_phase Call Call = true
is_phase Call Teardown = false
is_phase Teardown SetUp = false
is_phase Teardown Call = false
is_phase Teardown Teardown = true

module _ {World Value Thrown Rest : Type 0} where
  -- how a phase ended: one that isn't there did not run
  abbrev pub phase_end_in : Phase → List (PhaseEnd (report_language World Value Thrown Rest)) → ShownEnd
  phase_end_in phase [] = NotRun
  phase_end_in phase (e ∷ ends) = if is_phase phase e.phase then e.told.end else phase_end_in phase ends

  -- what was printed in a phase
  abbrev pub captured_in : Phase → List (PhaseEnd (report_language World Value Thrown Rest)) → List ℕ
  captured_in phase [] = []
  captured_in phase (e ∷ ends) = if is_phase phase e.phase then e.told.captured else captured_in phase ends

  -- its names, how its phases ended, what was printed in each, and with `--setup-show` its lines
  abbrev pub item_report : Options → (ℕ → Scope) → (ℕ → FixtureTexts) → ReportRow (report_language World Value Thrown Rest) → ItemReport
  item_report options scope fixture r =
      record {
        node_id = r.task.chosen.texts.node_id;
        title = r.task.chosen.texts.title;
        file = r.task.chosen.texts.file;
        setup = phase_end_in SetUp r.ends;
        call = phase_end_in Call r.ends;
        teardown = phase_end_in Teardown r.ends;
        shown_lines = if options.setup_show then shown_lines scope fixture r else [];
        captured = (captured_in SetUp r.ends, captured_in Call r.ends, captured_in Teardown r.ends);
      }
