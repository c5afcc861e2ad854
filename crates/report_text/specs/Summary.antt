-- The short summary, the line that says why a run stopped, and the counts.
use Rattle.std.specs.Prelude.{ℕ, ◌+◌, List, [], ◌∷◌, ◌++◌, length, Bool, ◌||◌, codes, decimal, flat_map, sum_by, ◌==◌, if◌then◌else◌}
use Rattle.std.specs.List.{list_any}
use Rattle.texts.specs.Texts.{counted, joined, title}
use Rattle.cli_words.specs.declared.options.Options.{Options}
use Rattle.report_parts.specs.Exceptions.{first_line_bytes, strict_first}
use Rattle.report_parts.specs.Outcomes.{has_error, has_failed, is_raised, not_empty, once, outcome_of}
use Rattle.report_parts.specs.declared.outcome.Outcome.{Outcome}
use Rattle.report_parts.specs.declared.outcome.Outcome.TheVariants.{Passed, Failed, Error, Skipped, Xfailed, Xpassed}
use Rattle.report_parts.specs.declared.outcome.Phase.TheVariants.{Setup, Call, Teardown}
use Rattle.report_parts.specs.declared.report.CollectReport.{CollectReport}
use Rattle.report_parts.specs.declared.report.ItemReport.{ItemReport}
use Rattle.report_parts.specs.declared.report.PhaseEnd.{PhaseEnd}
use Rattle.report_parts.specs.declared.report.PhaseEnd.TheVariants as end
use Rattle.report_parts.specs.declared.report.Told.{Told}

-- the first line of the first exception
abbrev pub first_told : List Told → List ℕ
first_told [] = []
first_told (told ∷ tolds) = first_line_bytes told.text

abbrev pub end_text : PhaseEnd → List ℕ
end_text (end.StrictXpassed frame reason) = strict_first reason
end_text (end.Raised tolds) = first_told tolds
end_text end.NotRun = []
end_text end.Passed = []
end_text end.Skipped = []
end_text end.Xfailed = []
end_text end.Xpassed = []

-- what failed, and the text of its end
unfoldable pub summary_line : List ℕ → List ℕ → List ℕ → List ℕ
summary_line kind name text = kind ++ (codes " " ++ (name ++ (codes " - " ++ (text ++ codes "\n"))))

unfoldable pub failed_line : ItemReport → List ℕ
failed_line report = if has_failed report then summary_line (codes "FAILED") report.node_id (end_text report.call) else []

unfoldable pub collect_line : CollectReport → List ℕ
collect_line error = summary_line (codes "ERROR") error.file (first_line_bytes error.told.text)

unfoldable pub setup_line : ItemReport → List ℕ
setup_line report = if is_raised report.setup then summary_line (codes "ERROR") report.node_id (end_text report.setup) else []

unfoldable pub teardown_line : ItemReport → List ℕ
teardown_line report = if is_raised report.teardown then summary_line (codes "ERROR") report.node_id (end_text report.teardown) else []

unfoldable pub item_error_lines : ItemReport → List ℕ
item_error_lines report = setup_line report ++ teardown_line report

-- the failures, and then the errors, those of collection first
unfoldable pub short_summary : List CollectReport → List ItemReport → List ℕ
short_summary errors reports =
    if list_any has_failed reports || (not_empty errors || list_any has_error reports)
    then title 61 (codes "short test summary info") ++ (flat_map failed_line reports ++ (flat_map collect_line errors ++ flat_map item_error_lines reports))
    else []

-- why a run stopped
unfoldable pub interrupted_text : ℕ → List ℕ
interrupted_text errors = codes "Interrupted: " ++ (counted errors (codes "error") ++ codes " during collection")

unfoldable pub stopping_text : ℕ → List ℕ
stopping_text maxfail = codes "stopping after " ++ (decimal maxfail ++ codes " failures")

unfoldable pub stop_line : ℕ → ℕ → Bool → List ℕ
stop_line errors maxfail stopped =
    if errors == 0 then (if stopped then title 33 (stopping_text maxfail) else []) else title 33 (interrupted_text errors)

-- how often an outcome was shown
abbrev pub times_in : Outcome → ItemReport → ℕ
times_in outcome report =
    once outcome (outcome_of Setup report.setup) + once outcome (outcome_of Call report.call) + once outcome (outcome_of Teardown report.teardown)

abbrev pub times : Outcome → List ItemReport → ℕ
times outcome reports = sum_by (times_in outcome) reports

-- a count that is above 0
abbrev pub count_piece : ℕ → List ℕ → List (List ℕ)
count_piece count noun = if count == 0 then [] else (decimal count ++ (32 ∷ noun)) ∷ []

abbrev pub error_piece : ℕ → List (List ℕ)
error_piece count = if count == 0 then [] else counted count (codes "error") ∷ []

-- the counts in their order
unfoldable pub first_pieces : List ItemReport → ℕ → List (List ℕ)
first_pieces reports deselected =
    count_piece (times Failed reports) (codes "failed")
    ++ (count_piece (times Passed reports) (codes "passed")
    ++ (count_piece (times Skipped reports) (codes "skipped")
    ++ count_piece deselected (codes "deselected")))

unfoldable pub last_pieces : List CollectReport → List ItemReport → List (List ℕ)
last_pieces errors reports =
    count_piece (times Xfailed reports) (codes "xfailed")
    ++ (count_piece (times Xpassed reports) (codes "xpassed")
    ++ error_piece (times Error reports + length errors))

abbrev pub counts_text : List (List ℕ) → List ℕ
counts_text [] = codes "no tests ran"
counts_text (piece ∷ pieces) = joined (codes ", ") (piece ∷ pieces)

-- the counts of `--collect-only`
unfoldable pub deselected_behind : ℕ → List ℕ
deselected_behind deselected = if deselected == 0 then [] else codes " (" ++ (decimal deselected ++ codes " deselected)")

unfoldable pub tests_text : ℕ → ℕ → List ℕ
tests_text selected deselected =
    if selected == 0 then codes "no tests"
    else (if deselected == 0 then counted selected (codes "test")
    else decimal selected ++ (codes "/" ++ (decimal (selected + deselected) ++ codes " tests")))

unfoldable pub collect_errors_behind : ℕ → List ℕ
collect_errors_behind errors = if errors == 0 then [] else codes ", " ++ counted errors (codes "error")

unfoldable pub collected_text : ℕ → ℕ → ℕ → List ℕ
collected_text selected deselected errors =
    tests_text selected deselected ++ (codes " collected" ++ (deselected_behind deselected ++ collect_errors_behind errors))

-- the last title
unfoldable pub last_text : Options → List CollectReport → List ItemReport → ℕ → ℕ → List ℕ
last_text options errors reports selected deselected =
    if options.collect_only then collected_text selected deselected (length errors)
    else counts_text (first_pieces reports deselected ++ last_pieces errors reports)

unfoldable pub summary_of : Options → List CollectReport → List ItemReport → ℕ → ℕ → Bool → List ℕ
summary_of options errors reports selected deselected stopped =
    short_summary errors reports
    ++ (stop_line (length errors) options.maxfail stopped
    ++ title 61 (last_text options errors reports selected deselected))
