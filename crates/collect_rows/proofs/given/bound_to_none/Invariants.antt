use Rattle.std.proofs.Common.{◌≡◌, map, take}
use Rattle.collect_rows.specs.Rows.{bound_to_none}
use Rattle.collect_rows.proofs.given.bound_to_none.Given as goal

abbrev pub invariant-loop-number : goal.invariant-loop-number
invariant-loop-number l = l.bound ≡ map (bound_to_none l.names) (take l.number-index l.numbers)
