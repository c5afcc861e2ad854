use Rattle.std.proofs.Common.{◌≡◌, ℕ, ◌||◌, length, take}
use Rattle.session_types.specs.Numbers.{among}
use Rattle.fixture_table.specs.Marks.{Marks, IsPrefixOf}
use Rattle.fixture_table.proofs.reaching.mark_all.Given as goal

abbrev pub invariant-loop-one : goal.invariant-loop-one
invariant-loop-one l = record {
  marks : Marks l.seen.items l.reached.items;
  members : (e : ℕ) → among e l.reached.items ≡ (among e l.fn.reached.items || among e (take l.one-index l.more));
  keeps : IsPrefixOf l.fn.reached.items l.reached.items;
  size : length l.seen.items ≡ length l.fn.seen.items;
}
