use Rattle.std.proofs.Common.{◌≡◌, ◌++◌, drop}
use Rattle.std.specs.Prelude.{string_bytes, flat_map}
use Rattle.report_text.specs.Progress.{shown_lines_of, placed_reports}
use Rattle.report_text.proofs.running.push_all_shown_lines.Given as goal

abbrev pub invariant-loop-report : goal.invariant-loop-report
invariant-loop-report l =
    string_bytes l.out ++ flat_map shown_lines_of (placed_reports (drop l.report-index l.reports) l.left) ≡ string_bytes l.fn.out ++ flat_map shown_lines_of (placed_reports l.reports l.places)
