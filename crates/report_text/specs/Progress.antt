-- The progress lines.
use Rattle.std.specs.Prelude.{ℕ, List, [], ◌∷◌, ◌++◌, length, drop, slice_get, Bool, true, false, ◌&&◌, Option, None, Some, is_some, codes, decimal, flat_map, ◌==◌, if◌then◌else◌}
use Rattle.std.specs.Str.{bytes_eq}
use Rattle.texts.specs.Texts.{ended}
use Rattle.cli_words.specs.declared.options.Options.{Options}
use Rattle.report_parts.specs.Outcomes.{letter, outcome_of, word}
use Rattle.report_parts.specs.declared.outcome.Outcome.{Outcome}
use Rattle.report_parts.specs.declared.outcome.Phase.TheVariants.{Setup, Call, Teardown}
use Rattle.report_parts.specs.declared.report.ItemReport.{ItemReport}
use Rattle.report_parts.specs.declared.report.Place.{Place}

-- a report, and where its item ran
abbrev pub PlacedReport : Type 0
PlacedReport = ItemReport × Option Place

-- each report with its place, where there are places
abbrev pub placed_reports : List ItemReport → List Place → List PlacedReport
placed_reports [] places = []
placed_reports (report ∷ reports) places = (report, slice_get places 0) ∷ placed_reports reports (drop 1 places)

-- the end of a line, behind the worker's name
unfoldable pub worker_end : Option Place → List ℕ
worker_end None = codes "\n"
worker_end (Some place) = codes " [gw" ++ (decimal place.worker ++ codes "]\n")

-- the letters of an item
unfoldable pub letter_of : Option Outcome → List ℕ
letter_of None = []
letter_of (Some outcome) = letter outcome

unfoldable pub letters_of : ItemReport → List ℕ
letters_of report =
    letter_of (outcome_of Setup report.setup) ++ (letter_of (outcome_of Call report.call) ++ letter_of (outcome_of Teardown report.teardown))

-- whether two neighbours stand in one line: in one file, and with workers in one group
abbrev pub same_group : Option Place → Option Place → Bool
same_group None None = true
same_group (Some place) (Some next) = place.group == next.group
same_group None (Some next) = false
same_group (Some place) None = false

abbrev pub same_line : PlacedReport → PlacedReport → Bool
same_line row next = bytes_eq row.0.file next.0.file && same_group row.1 next.1

-- the stretches of neighbours that stand in one line
abbrev pub onto_stretch : PlacedReport → List (List PlacedReport) → List (List PlacedReport)
onto_stretch row [] = (row ∷ []) ∷ []
onto_stretch row ([] ∷ others) = (row ∷ []) ∷ others
onto_stretch row ((next ∷ stretch) ∷ others) =
    if same_line row next then (row ∷ next ∷ stretch) ∷ others else (row ∷ []) ∷ (next ∷ stretch) ∷ others

abbrev pub line_stretches : List PlacedReport → List (List PlacedReport)
line_stretches [] = []
line_stretches (row ∷ rest) = onto_stretch row (line_stretches rest)

abbrev pub last_place : List PlacedReport → Option Place
last_place [] = None
last_place (row ∷ []) = row.1
last_place (row ∷ next ∷ rest) = last_place (next ∷ rest)

-- the file, the letters of its items, and the worker
abbrev pub letters_in : List PlacedReport → List ℕ
letters_in stretch = flat_map (λ row. letters_of row.0) stretch

unfoldable pub file_start : ItemReport → List ℕ
file_start report = report.file ++ codes " "

abbrev pub stretch_line : List PlacedReport → List ℕ
stretch_line [] = []
stretch_line (row ∷ rest) = file_start row.0 ++ (letters_in (row ∷ rest) ++ worker_end (last_place (row ∷ rest)))

unfoldable pub plain_lines : List PlacedReport → List ℕ
plain_lines placed_reports = flat_map stretch_line (line_stretches placed_reports)

-- what stands between the letters of two neighbours
abbrev pub between : PlacedReport → PlacedReport → List ℕ
between row next = if same_line row next then [] else worker_end row.1 ++ file_start next.0

-- what stands behind the letters of an item
abbrev pub after_letters : PlacedReport → List PlacedReport → List ℕ
after_letters row [] = worker_end row.1
after_letters row (next ∷ rest) = between row next ++ (letters_of next.0 ++ after_letters next rest)

-- with `-v` a line an outcome
unfoldable pub verbose_line : List ℕ → Option Place → Option Outcome → List ℕ
verbose_line node_id place None = []
verbose_line node_id place (Some outcome) = node_id ++ (codes " " ++ (word outcome ++ worker_end place))

unfoldable pub verbose_lines : PlacedReport → List ℕ
verbose_lines row =
    verbose_line row.0.node_id row.1 (outcome_of Setup row.0.setup)
    ++ (verbose_line row.0.node_id row.1 (outcome_of Call row.0.call)
    ++ verbose_line row.0.node_id row.1 (outcome_of Teardown row.0.teardown))

-- with `--setup-show` the lines of each item
abbrev pub shown_line : Option Place → List ℕ → List ℕ
shown_line place line = line ++ worker_end place

abbrev pub shown_lines_of : PlacedReport → List ℕ
shown_lines_of row = flat_map (shown_line row.1) row.0.shown_lines

-- with `--collect-only` the node ids
abbrev pub node_line : ItemReport → List ℕ
node_line report = ended report.node_id

unfoldable pub progress_lines : Options → List ItemReport → List Place → List ℕ
progress_lines options reports places =
    if is_some options.generated then []
    else (if options.collect_only then flat_map node_line reports
    else (if options.setup_show then flat_map shown_lines_of (placed_reports reports places)
    else (if options.verbose then flat_map verbose_lines (placed_reports reports places)
    else plain_lines (placed_reports reports places))))

-- the lines, and an empty line where there were any
abbrev pub with_gap : List ℕ → List ℕ
with_gap lines = if length lines == 0 then [] else lines ++ 10 ∷ []

unfoldable pub progress_of : Options → List ItemReport → List Place → List ℕ
progress_of options reports places = with_gap (progress_lines options reports places)
