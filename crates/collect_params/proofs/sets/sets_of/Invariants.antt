use Rattle.std.proofs.Common.{◌≡◌, ◌++◌, drop}
use Rattle.collect_params.specs.Given.{sets_from}
use Rattle.collect_params.proofs.sets.sets_of.Given as goal

abbrev pub invariant-loop-place : goal.invariant-loop-place
invariant-loop-place l = l.sets ++ sets_from l.heap l.single l.ids l.place (drop l.place l.rows) ≡ sets_from l.heap l.single l.ids 0 l.rows
