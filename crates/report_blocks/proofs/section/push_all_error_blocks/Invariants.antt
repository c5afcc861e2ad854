use Rattle.std.proofs.Common.{◌≡◌, ◌++◌, take}
use Rattle.std.specs.Prelude.{string_bytes, flat_map}
use Rattle.report_blocks.specs.Blocks.{error_blocks}
use Rattle.report_blocks.proofs.section.push_all_error_blocks.Given as goal

abbrev pub invariant-loop-report : goal.invariant-loop-report
invariant-loop-report l = string_bytes l.out ≡ string_bytes l.fn.out ++ flat_map (error_blocks l.tb) (take l.report-index l.reports)
