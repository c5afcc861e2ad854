-- What is printed, and the status.
use Rattle.std.specs.Prelude.{ℕ, List, ◌++◌, length, codes, Bool, ◌||◌, ◌==◌, if◌then◌else◌}
use Rattle.std.specs.List.{list_any}
use Rattle.texts.specs.Texts.{ended}
use Rattle.cli_words.specs.Info.{info_text}
use Rattle.cli_words.specs.declared.info.Info.{Info}
use Rattle.cli_words.specs.declared.options.Options.{Options}
use Rattle.edge_io.specs.Files.{TreeLimit, ManyFiles, LargeFile, LargeTree}
use Rattle.report_text.specs.report_blocks.Blocks.{sections_of}
use Rattle.report_parts.specs.Outcomes.{has_error, has_failed, not_empty}
use Rattle.report_text.specs.Conftest.{conftest_text}
use Rattle.report_text.specs.Head.{head_of}
use Rattle.report_text.specs.Progress.{progress_of}
use Rattle.report_text.specs.Summary.{summary_of}
use Rattle.report_parts.specs.declared.report.CollectReport.{CollectReport}
use Rattle.report_parts.specs.declared.report.ItemReport.{ItemReport}
use Rattle.report_parts.specs.declared.report.Place.{Place}
use Rattle.report_parts.specs.declared.report.Told.{Told}

-- how a run ends, by pytest's exit codes 0, 1, 2, 4 and 5
pub data Status : Type 0 where
  Passed : Status
  Failed : Status
  Interrupted : Status
  Usage : Status
  NoTests : Status

-- bytes and a status
abbrev pub PrintedAnswer : Type 0
PrintedAnswer = List ℕ × Status

-- words or files that are refused
abbrev pub refusal : List ℕ → PrintedAnswer
refusal text = (codes "ERROR: " ++ ended text, Usage)

-- a text that words ask for
abbrev pub info_answer : Info → PrintedAnswer
info_answer info = (info_text info, Passed)

-- the usage text of a limit
abbrev pub limit_text : TreeLimit → List ℕ
limit_text ManyFiles = codes "too many files"
limit_text (LargeFile path) = codes "file too large: " ++ path
limit_text LargeTree = codes "tree too large"

-- a conftest that raises
abbrev pub conftest_fault : List ℕ → Told → PrintedAnswer
conftest_fault path told = (conftest_text path told, Usage)

-- the parts of a report
abbrev pub report_bytes : Options → ℕ → ℕ → List CollectReport → ℕ → List ItemReport → List Place → Bool → List ℕ
report_bytes options selected deselected errors workers reports places stopped =
    ((head_of selected deselected (length errors) workers
    ++ progress_of options reports places)
    ++ sections_of options.tb errors reports)
    ++ summary_of options errors reports selected deselected stopped

abbrev pub is_bad : ItemReport → Bool
is_bad report = has_failed report || has_error report

-- the status of a report
abbrev pub status_of : ℕ → List CollectReport → List ItemReport → Status
status_of selected errors reports =
    if not_empty errors then Interrupted
    else (if list_any is_bad reports then Failed
    else (if selected == 0 then NoTests else Passed))
