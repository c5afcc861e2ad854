use Rattle.std.proofs.Common.{◌≡◌, [], drop}
use Rattle.pytest_calls.specs.Marks.{bound_all}
use Rattle.pytest_calls.proofs.marks.bound_all.Given as goal

abbrev pub invariant-loop-entry : goal.invariant-loop-entry
invariant-loop-entry l = bound_all l.named [] ≡ bound_all (drop l.entry-index l.named) l.names
