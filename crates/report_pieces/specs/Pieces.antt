-- The progress of one thread in pieces: what is written as an item ends.
use Rattle.std.specs.Prelude.{ℕ, ◌-◌, List, [], ◌∷◌, ◌++◌, length, slice_get, Bool, not, ◌||◌, Option, None, Some, is_some, codes, ◌==◌, if◌then◌else◌}
use Rattle.cli_words.specs.declared.options.Options.{Options}
use Rattle.report_parts.specs.declared.report.ItemReport.{ItemReport}
use Rattle.report_text.specs.Progress.{PlacedReport, between, file_start, letters_of, shown_lines_of, verbose_lines}

-- a report of one thread
abbrev pub unplaced : ItemReport → PlacedReport
unplaced report = (report, None)

-- the last of these
abbrev pub last_report : List ItemReport → Option ItemReport
last_report before = slice_get before (length before - 1)

-- the letters of an item, with what stands in front of them: the start of the first line, or what stands behind the letters before
abbrev pub letters_behind : Option ItemReport → ItemReport → List ℕ
letters_behind None report = file_start report ++ letters_of report
letters_behind (Some last) report = between (unplaced last) (unplaced report) ++ letters_of report

-- THE PIECE of an item, behind those before it: with `--generated` nothing, with `--setup-show` its lines, with `-v` a line an outcome
unfoldable pub piece_of : Options → List ItemReport → ItemReport → List ℕ
piece_of options before report =
    if is_some options.generated then []
    else (if options.setup_show then shown_lines_of (unplaced report)
    else (if options.verbose then verbose_lines (unplaced report)
    else letters_behind (last_report before) report))

-- those of all of these, behind those before
abbrev pub pieces_of : Options → List ItemReport → List ItemReport → List ℕ
pieces_of options before [] = []
pieces_of options before (report ∷ reports) = piece_of options before report ++ pieces_of options (before ++ report ∷ []) reports

-- whether lines end with their pieces
abbrev pub has_whole_lines : Options → Bool
has_whole_lines options = is_some options.generated || (options.setup_show || options.verbose)

-- what stands behind the pieces, where there are any: the end of the last line, and an empty line
unfoldable pub pieces_end : Options → List ℕ → List ℕ
pieces_end options pieces = if length pieces == 0 then [] else (if has_whole_lines options then codes "\n" else codes "\n\n")
