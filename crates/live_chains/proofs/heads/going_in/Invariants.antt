use Rattle.std.proofs.Common.{◌≡◌, ◌≤◌, ◌++◌}
use Rattle.live_chains.specs.Chained.{chain_at}
use Rattle.session_types.specs.Scopes.{scope_count}
use Rattle.live_chains.specs.Walked.{going_below}
use Rattle.live_chains.proofs.heads.going_in.Given as goal

abbrev pub invariant-loop-rank : goal.invariant-loop-rank
invariant-loop-rank l = record {
  few : l.rank ≤ scope_count;
  same : l.ids.items ++ going_below l.roots (chain_at l.cells l.heads) l.rank ≡ going_below l.roots (chain_at l.cells l.heads) scope_count;
}

abbrev pub decreases-loop-rank : goal.decreases-loop-rank
decreases-loop-rank l = l.rank
