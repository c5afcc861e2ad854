use Rattle.std.proofs.Common.{◌≡◌, ◌<◌, true, length}
use Rattle.fixture_table.specs.Tree.{covers}
use Rattle.fixture_table.proofs.Nearest.{AllAbove}
use Rattle.fixture_table.proofs.looking.nearest.Given as goal

abbrev pub invariant-loop-at : goal.invariant-loop-at
invariant-loop-at l = record {
  within : l.at < length l.nodes;
  on : covers l.nodes l.at l.item ≡ true;
  above : AllAbove l.nodes l.defs l.name l.item l.beyond l.at;
}

abbrev pub decreases-loop-at : goal.decreases-loop-at
decreases-loop-at l = l.at
