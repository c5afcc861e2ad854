-- The blocks of errors and failures.
use Rattle.std.specs.Prelude.{ℕ, ◌-◌, List, [], ◌++◌, length, slice_index, Bool, true, false, ◌||◌, codes, flat_map, ◌==◌, if◌then◌else◌}
use Rattle.std.specs.List.{list_any}
use Rattle.texts.specs.Texts.{title}
use Rattle.cli_words.specs.declared.options.Tb.{Tb}
use Rattle.cli_words.specs.declared.options.Tb.TheVariants.{Short, Line, No}
use Rattle.report_parts.specs.Exceptions.{at_frame, short_told, strict_first, strict_text, told_lines}
use Rattle.report_parts.specs.Outcomes.{has_error, has_failed, is_failed, is_raised, not_empty}
use Rattle.report_parts.specs.declared.report.CollectReport.{CollectReport}
use Rattle.report_parts.specs.declared.report.ItemReport.{ItemReport}
use Rattle.report_parts.specs.declared.report.PhaseEnd.{PhaseEnd}
use Rattle.report_parts.specs.declared.report.PhaseEnd.TheVariants as end

-- captured text, under its title and ended by a line end
abbrev pub has_line_end : List ℕ → Bool
has_line_end text = slice_index text (length text - 1) == 10

unfoldable pub captured_lines : List ℕ → List ℕ → List ℕ
captured_lines name text =
    if length text == 0 then [] else title 45 name ++ (text ++ (if has_line_end text then [] else codes "\n"))

-- what a phase says of its end, in full and with `--tb=line`
abbrev pub end_lines : PhaseEnd → List ℕ
end_lines (end.StrictXpassed frame reason) = strict_text reason ++ codes "\n"
end_lines (end.Raised tolds) = flat_map told_lines tolds
end_lines end.NotRun = []
end_lines end.Passed = []
end_lines end.Skipped = []
end_lines end.Xfailed = []
end_lines end.Xpassed = []

abbrev pub short_end : PhaseEnd → List ℕ
short_end (end.StrictXpassed frame reason) = at_frame frame ++ (strict_first reason ++ codes "\n")
short_end (end.Raised tolds) = flat_map short_told tolds
short_end end.NotRun = []
short_end end.Passed = []
short_end end.Skipped = []
short_end end.Xfailed = []
short_end end.Xpassed = []

-- the title of a block and what is said of the end
unfoldable pub block_opening : Tb → List ℕ → PhaseEnd → List ℕ
block_opening Short name end = title 95 name ++ end_lines end
block_opening Line name end = short_end end
block_opening No name end = []

-- what was captured in each phase
unfoldable pub captured_setup : ItemReport → List ℕ
captured_setup report = captured_lines (codes "Captured stdout setup") report.captured.0

unfoldable pub captured_call : ItemReport → List ℕ
captured_call report = captured_lines (codes "Captured stdout call") report.captured.1

unfoldable pub captured_teardown : ItemReport → List ℕ
captured_teardown report = captured_lines (codes "Captured stdout teardown") report.captured.2

-- in the phases up to the call, and up to the teardown
abbrev pub captured_to_call : ItemReport → List ℕ
captured_to_call report = captured_setup report ++ captured_call report

abbrev pub captured_to_teardown : ItemReport → List ℕ
captured_to_teardown report = captured_to_call report ++ captured_teardown report

-- captured text stands in full blocks alone
abbrev pub is_full : Tb → Bool
is_full Short = true
is_full Line = false
is_full No = false

unfoldable pub block_lines : Tb → List ℕ → PhaseEnd → List ℕ → List ℕ
block_lines tb name end captured = block_opening tb name end ++ (if is_full tb then captured else [])

unfoldable pub setup_block : Tb → ItemReport → List ℕ
setup_block tb report =
    if is_raised report.setup then block_lines tb (codes "ERROR at setup of " ++ report.title) report.setup (captured_setup report) else []

unfoldable pub failure_block : Tb → ItemReport → List ℕ
failure_block tb report =
    if is_failed report.call then block_lines tb report.title report.call (captured_to_call report) else []

unfoldable pub teardown_block : Tb → ItemReport → List ℕ
teardown_block tb report =
    if is_raised report.teardown then block_lines tb (codes "ERROR at teardown of " ++ report.title) report.teardown (captured_to_teardown report) else []

unfoldable pub error_blocks : Tb → ItemReport → List ℕ
error_blocks tb report = setup_block tb report ++ teardown_block tb report

unfoldable pub collect_captured : CollectReport → List ℕ
collect_captured error = captured_lines (codes "Captured stdout") error.captured

-- the block of a file whose collection failed
unfoldable pub collect_block : Tb → CollectReport → List ℕ
collect_block Short error = title 95 (codes "ERROR collecting " ++ error.file) ++ (told_lines error.told ++ collect_captured error)
collect_block Line error = short_told error.told
collect_block No error = []

-- the errors, those of collection first, where there are some
unfoldable pub errors_section : Tb → List CollectReport → List ItemReport → List ℕ
errors_section tb errors reports =
    if not_empty errors || list_any has_error reports
    then title 61 (codes "ERRORS") ++ (flat_map (collect_block tb) errors ++ flat_map (error_blocks tb) reports)
    else []

-- the failures, where there are some
unfoldable pub failures_section : Tb → List ItemReport → List ℕ
failures_section tb reports =
    if list_any has_failed reports then title 61 (codes "FAILURES") ++ flat_map (failure_block tb) reports else []

abbrev pub is_quiet : Tb → Bool
is_quiet Short = false
is_quiet Line = false
is_quiet No = true

unfoldable pub sections_of : Tb → List CollectReport → List ItemReport → List ℕ
sections_of tb errors reports =
    if is_quiet tb then [] else errors_section tb errors reports ++ failures_section tb reports
