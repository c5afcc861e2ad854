use Rattle.std.proofs.Common.{◌≡◌, ℕ, ◌<◌, ◌≤◌, false, length, get_or}
use Rattle.fixture_table.specs.Index.{is_called}
use Rattle.fixture_table.proofs.looking.last_called.Given as goal

abbrev pub invariant-loop-at : goal.invariant-loop-at
invariant-loop-at l = record {
  within : l.at ≤ length l.row;
  none : (q : ℕ) → l.at ≤ q → q < length l.row → is_called l.nodes l.defs l.name l.beyond (get_or l.row q 0) ≡ false;
}

abbrev pub decreases-loop-at : goal.decreases-loop-at
decreases-loop-at l = l.at
