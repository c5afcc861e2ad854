use Rattle.std.proofs.Common.{◌≡◌, ◌++◌, length}
use Rattle.link_cells.proofs.Walks.{Walks}
use Rattle.live_chains.specs.Chained.{list_at}
use Rattle.live_chains.specs.Walked.{resting_ids}
use Rattle.live_chains.proofs.Stepped.{left}
use Rattle.live_chains.proofs.walks.resting_in.Given as goal

abbrev pub invariant-loop-at : goal.invariant-loop-at
invariant-loop-at l = record {
  walk : Walks l.cells l.head l.at;
  same : l.ids.items ++ resting_ids l.roots (left l.cells l.head l.at) ≡ resting_ids l.roots (list_at l.cells l.head);
}

abbrev pub decreases-loop-at : goal.decreases-loop-at
decreases-loop-at l = length (left l.cells l.head l.at)
