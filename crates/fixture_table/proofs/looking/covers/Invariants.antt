use Rattle.std.proofs.Common.{◌≡◌, ◌<◌, length}
use Rattle.fixture_table.specs.Tree.{covers}
use Rattle.fixture_table.proofs.looking.covers.Given as goal

abbrev pub invariant-loop-at : goal.invariant-loop-at
invariant-loop-at l = record {
  within : l.at < length l.nodes;
  same : covers l.nodes l.outer l.at ≡ covers l.nodes l.outer l.inner;
}

abbrev pub decreases-loop-at : goal.decreases-loop-at
decreases-loop-at l = l.at
