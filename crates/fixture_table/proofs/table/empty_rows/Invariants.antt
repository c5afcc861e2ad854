use Rattle.std.proofs.Common.{◌≡◌, ℕ, length, []}
use Rattle.fixture_table.specs.Marks.{row_of}
use Rattle.fixture_table.proofs.table.empty_rows.Given as goal

abbrev pub invariant-loop : goal.invariant-loop
invariant-loop l = record {
  many : length l.rows.items ≡ l.counter;
  empty : (d : ℕ) → row_of l.rows.items d ≡ [];
}
