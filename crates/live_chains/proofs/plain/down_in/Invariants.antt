use Rattle.std.proofs.Common.{◌≡◌, ◌≤◌, ◌++◌}
use Rattle.session_types.specs.Live.{below_rank, instance_numbers}
use Rattle.session_types.specs.Scopes.{scope_count}
use Rattle.live_chains.specs.Down.{dying}
use Rattle.live_chains.proofs.plain.down_in.Given as goal

abbrev pub invariant-loop-rank : goal.invariant-loop-rank
invariant-loop-rank l = record {
  few : l.rank ≤ scope_count;
  same : l.out.items ++ instance_numbers (below_rank l.rank (dying l.which l.live)) ≡ instance_numbers (below_rank scope_count (dying l.which l.live));
}

abbrev pub decreases-loop-rank : goal.decreases-loop-rank
decreases-loop-rank l = l.rank
