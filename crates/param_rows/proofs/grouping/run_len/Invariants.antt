use Rattle.std.proofs.Common.{◌≡◌, ◌+◌, ◌-◌, drop}
use Rattle.param_rows.specs.Grouping.{are_neighbours}
use Rattle.param_rows.specs.Cuts.{run_len}
use Rattle.param_rows.proofs.grouping.run_len.Given as goal

abbrev pub invariant-loop-at : goal.invariant-loop-at
invariant-loop-at l = (l.at - 1) + run_len (are_neighbours l.scope l.items) (drop (l.at - 1) l.order) ≡ run_len (are_neighbours l.scope l.items) l.order
