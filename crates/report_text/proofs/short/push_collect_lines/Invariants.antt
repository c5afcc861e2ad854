use Rattle.std.proofs.Common.{◌≡◌, ◌++◌, take}
use Rattle.std.specs.Prelude.{string_bytes, flat_map}
use Rattle.report_text.specs.Summary.{collect_line}
use Rattle.report_text.proofs.short.push_collect_lines.Given as goal

abbrev pub invariant-loop-error : goal.invariant-loop-error
invariant-loop-error l = string_bytes l.out ≡ string_bytes l.fn.out ++ flat_map collect_line (take l.error-index l.errors)
