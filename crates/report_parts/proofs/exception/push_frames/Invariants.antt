use Rattle.std.proofs.Common.{◌≡◌, ◌++◌, take}
use Rattle.std.specs.Prelude.{string_bytes, flat_map}
use Rattle.report_parts.specs.Exceptions.{frame_lines}
use Rattle.report_parts.proofs.exception.push_frames.Given as goal

abbrev pub invariant-loop-frame : goal.invariant-loop-frame
invariant-loop-frame l = string_bytes l.out ≡ string_bytes l.fn.out ++ flat_map frame_lines (take l.frame-index l.frames)
