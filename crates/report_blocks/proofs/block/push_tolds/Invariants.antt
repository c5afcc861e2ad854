use Rattle.std.proofs.Common.{◌≡◌, ◌++◌, take}
use Rattle.std.specs.Prelude.{string_bytes, flat_map}
use Rattle.report_parts.specs.Exceptions.{told_lines}
use Rattle.report_blocks.proofs.block.push_tolds.Given as goal

abbrev pub invariant-loop-told : goal.invariant-loop-told
invariant-loop-told l = string_bytes l.out ≡ string_bytes l.fn.out ++ flat_map told_lines (take l.told-index l.tolds)
