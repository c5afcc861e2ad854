use Rattle.std.proofs.Common.{◌≡◌, ◌++◌, drop}
use Rattle.std.specs.Prelude.{string_bytes}
use Rattle.report_text.specs.Progress.{after_letters, placed_reports}
use Rattle.report_text.proofs.running.push_other_lines.Given as goal

abbrev pub invariant-loop-report : goal.invariant-loop-report
invariant-loop-report l =
    string_bytes l.out ++ after_letters (l.last, l.place) (placed_reports (drop l.report-index l.others) l.left) ≡ string_bytes l.fn.out ++ after_letters (l.fn.first, l.fn.first_place) (placed_reports l.others l.fn.places)
