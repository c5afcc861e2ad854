use Rattle.std.proofs.Common.{◌≡◌, ◌++◌, take}
use Rattle.std.specs.Prelude.{string_bytes, flat_map}
use Rattle.report_text.specs.Summary.{item_error_lines}
use Rattle.report_text.proofs.short.push_all_item_error_lines.Given as goal

abbrev pub invariant-loop-report : goal.invariant-loop-report
invariant-loop-report l = string_bytes l.out ≡ string_bytes l.fn.out ++ flat_map item_error_lines (take l.report-index l.reports)
