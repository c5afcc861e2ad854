use Rattle.std.proofs.Common.{◌≡◌, ◌≤◌, ◌++◌}
use Rattle.live_chains.specs.Chained.{chain_at, chains_below}
use Rattle.session_types.specs.Scopes.{scope_count}
use Rattle.live_chains.specs.Walked.{off_orders}
use Rattle.live_chains.proofs.heads.off_in.Given as goal

abbrev pub invariant-loop-rank : goal.invariant-loop-rank
invariant-loop-rank l = record {
  few : l.rank ≤ scope_count;
  same : l.numbers.items ++ off_orders l.chain (chains_below (chain_at l.cells l.heads) l.rank) ≡ off_orders l.chain (chains_below (chain_at l.cells l.heads) scope_count);
}

abbrev pub decreases-loop-rank : goal.decreases-loop-rank
decreases-loop-rank l = l.rank
