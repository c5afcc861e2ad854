use Rattle.std.proofs.Common.{◌≡◌, map, take}
use Rattle.collect_rows.specs.Rows.{bound_by}
use Rattle.collect_rows.proofs.given.all_bound.Given as goal

abbrev pub invariant-loop-number : goal.invariant-loop-number
invariant-loop-number l = l.bound ≡ map (bound_by l.names) (take l.number-index l.pairs)
