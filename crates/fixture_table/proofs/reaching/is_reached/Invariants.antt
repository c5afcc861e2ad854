use Rattle.std.proofs.Common.{◌≡◌, ℕ, ◌<◌, length, true, get_or}
use Rattle.session_types.specs.Numbers.{among}
use Rattle.fixture_table.specs.Marks.{Marks, row_of}
use Rattle.fixture_table.specs.Faults.{RequestPath}
use Rattle.fixture_table.proofs.reaching.is_reached.Given as goal

abbrev pub invariant-loop-place : goal.invariant-loop-place
invariant-loop-place l = record {
  marks : Marks l.seen.items l.reached.items;
  size : length l.seen.items ≡ length l.asks;
  sound : (e : ℕ) → among e l.reached.items ≡ true → RequestPath (row_of l.asks) l.from e;
  first : (e : ℕ) → among e (row_of l.asks l.from) ≡ true → among e l.reached.items ≡ true;
  done : (p e : ℕ) → p < l.place → p < length l.reached.items → among e (row_of l.asks (get_or l.reached.items p 0)) ≡ true → among e l.reached.items ≡ true;
}
