use Rattle.std.proofs.Common.{◌-◌}
use Rattle.acceptance.proofs.draws.DrawGate.comes.Given as goal

abbrev pub decreases-loop-turns : goal.decreases-loop-turns
decreases-loop-turns l = 200000000 - l.turns
