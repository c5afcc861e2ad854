use Rattle.std.proofs.Common.{◌≡◌, ◌++◌, None, take}
use Rattle.std.specs.Prelude.{string_bytes, flat_map}
use Rattle.report_text.specs.Progress.{shown_line}
use Rattle.report_pieces.proofs.making.push_shown_lines.Given as goal

abbrev pub invariant-loop-line : goal.invariant-loop-line
invariant-loop-line l = string_bytes l.out ≡ string_bytes l.fn.out ++ flat_map (shown_line None) (take l.line-index l.lines)
