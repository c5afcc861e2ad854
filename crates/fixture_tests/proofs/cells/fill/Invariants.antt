use Rattle.std.proofs.Common.{◌≡◌, ◌≢◌, ◌+◌, ℕ, IsSome}
use Rattle.link_cells.specs.Arena.{list_at_head}
use Rattle.fixture_tests.proofs.cells.fill.Given as goal

abbrev pub invariant-loop-value : goal.invariant-loop-value
invariant-loop-value g l = record {
  head : IsSome (list_at_head l.cells l.head);
  others : (k : ℕ) → k ≢ l.head → list_at_head l.cells k ≡ list_at_head l.fn.cells k;
  spare : l.cells.spare + l.value ≡ l.fn.cells.spare;
}
