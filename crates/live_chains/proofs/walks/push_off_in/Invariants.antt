use Rattle.std.proofs.Common.{◌≡◌, ◌++◌, length}
use Rattle.link_cells.proofs.Walks.{Walks}
use Rattle.live_chains.specs.Chained.{list_at}
use Rattle.live_chains.specs.Walked.{off_orders}
use Rattle.live_chains.proofs.Stepped.{left}
use Rattle.live_chains.proofs.walks.push_off_in.Given as goal

abbrev pub invariant-loop-at : goal.invariant-loop-at
invariant-loop-at l = record {
  walk : Walks l.cells l.head l.at;
  same : l.out.items ++ off_orders l.chain (left l.cells l.head l.at) ≡ l.fn.out.items ++ off_orders l.chain (list_at l.cells l.head);
}

abbrev pub decreases-loop-at : goal.decreases-loop-at
decreases-loop-at l = length (left l.cells l.head l.at)
