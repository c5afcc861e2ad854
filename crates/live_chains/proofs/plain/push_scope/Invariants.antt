use Rattle.std.proofs.Common.{◌≡◌, ◌≤◌, ◌++◌, drop, length}
use Rattle.std.specs.List.{filter}
use Rattle.session_types.specs.Live.{scope_numbers}
use Rattle.live_chains.specs.Down.{dies}
use Rattle.live_chains.proofs.plain.push_scope.Given as goal

abbrev pub invariant-loop-at : goal.invariant-loop-at
invariant-loop-at l = record {
  within : l.at ≤ length l.live;
  same : l.out.items ≡ l.fn.out.items ++ scope_numbers l.of (filter (dies l.which l.live) (drop l.at l.live));
}

abbrev pub decreases-loop-at : goal.decreases-loop-at
decreases-loop-at l = l.at
