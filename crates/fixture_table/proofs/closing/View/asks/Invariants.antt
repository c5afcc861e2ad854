use Rattle.std.proofs.Common.{◌≡◌, ℕ, ◌<◌, length}
use Rattle.fixture_table.specs.Closing.{entry_at}
use Rattle.fixture_table.specs.Index.{IsRow}
use Rattle.fixture_table.specs.Marks.{row_of}
use Rattle.fixture_table.proofs.closing.View.asks.Given as goal

abbrev pub invariant-loop-entry : goal.invariant-loop-entry
invariant-loop-entry l = record {
  many : length l.asks.items ≡ l.entry-index;
  rows : (p : ℕ) → p < l.entry-index → IsRow l.self.nodes.now l.self.defs.now l.self.item l.self.bound.now l.entries (entry_at l.entries p) (row_of l.asks.items p);
}
