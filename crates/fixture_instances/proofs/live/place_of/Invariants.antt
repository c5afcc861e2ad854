use Rattle.std.proofs.Common.{◌<◌, ◌≤◌, ◌-◌, length}
use Rattle.fixture_instances.specs.Joined.{kept_place}
use Rattle.fixture_instances.proofs.live.place_of.Given as goal

abbrev pub invariant-halves : goal.invariant-halves
invariant-halves g l = record {
  low : l.low ≤ kept_place l.order l.kept;
  high : kept_place l.order l.kept < l.high;
  within : l.high ≤ length l.kept;
}

abbrev pub decreases-halves : goal.decreases-halves
decreases-halves g l = l.high - l.low
