use Rattle.std.proofs.Common.{◌+◌, ◌*◌, length}
use Rattle.share_files.proofs.run.+ranges.Given as goal

abbrev pub decreases-run_halves-left : goal.decreases-run_halves-left
decreases-run_halves-left g l = 3 * length l.low.now + 3

abbrev pub decreases-run_halves-right : goal.decreases-run_halves-right
decreases-run_halves-right g l = 3 * length l.high.now + 3

abbrev pub decreases-run_halves : goal.decreases-run_halves
decreases-run_halves g l = 3 * (length l.low.now + length l.high.now) + 1

abbrev pub decreases-run_range : goal.decreases-run_range
decreases-run_range g l = 3 * length l.workers.now + 2
