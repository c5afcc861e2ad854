use Rattle.std.proofs.Common.{◌≡◌, ◌++◌, take}
use Rattle.std.specs.Prelude.{string_bytes, flat_map}
use Rattle.report_blocks.specs.Blocks.{collect_block}
use Rattle.report_blocks.proofs.section.push_all_collect_blocks.Given as goal

abbrev pub invariant-loop-error : goal.invariant-loop-error
invariant-loop-error l = string_bytes l.out ≡ string_bytes l.fn.out ++ flat_map (collect_block l.tb) (take l.error-index l.errors)
