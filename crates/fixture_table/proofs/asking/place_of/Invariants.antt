use Rattle.std.proofs.Common.{◌≡◌, drop, true}
use Rattle.fixture_table.specs.Closing.{has}
use Rattle.fixture_table.proofs.asking.place_of.Given as goal

abbrev pub invariant-loop-place : goal.invariant-loop-place
invariant-loop-place l = has l.entry (drop l.place l.entries) ≡ true
