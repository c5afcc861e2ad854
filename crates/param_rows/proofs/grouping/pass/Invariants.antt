use Rattle.std.proofs.Common.{◌≡◌, ◌++◌, ◌≤◌, length}
use Rattle.param_rows.specs.Grouping.{pass}
use Rattle.param_rows.proofs.grouping.pass.Given as goal

abbrev pub invariant-loop-rest : goal.invariant-loop-rest
invariant-loop-rest l = (length l.rest ≤ length l.order) × (l.new.items ++ pass l.scope l.items l.rest ≡ pass l.scope l.items l.order)

abbrev pub decreases-loop-rest : goal.decreases-loop-rest
decreases-loop-rest l = length l.rest
