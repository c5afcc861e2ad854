use Rattle.std.proofs.Common.{◌≡◌, ◌≤◌, ◌+◌, ◌-◌, length}
use Rattle.live_chains.specs.Chained.{AreTaken}
use Rattle.session_types.specs.Scopes.{scope_count}
use Rattle.live_chains.proofs.heads.take_heads.Given as goal

abbrev pub invariant-loop-heads : goal.invariant-loop-heads
invariant-loop-heads l = record {
  few : length l.heads.items ≤ scope_count;
  taken : AreTaken l.cells l.heads.items (length l.heads.items);
  room : l.cells.spare_heads + length l.heads.items ≡ l.fn.cells.spare_heads;
  spare : l.cells.spare ≡ l.fn.cells.spare;
}

abbrev pub decreases-loop-heads : goal.decreases-loop-heads
decreases-loop-heads l = scope_count - length l.heads.items
