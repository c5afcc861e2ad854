use Rattle.std.proofs.Common.{◌≡◌, drop}
use Rattle.pytest_calls.specs.Hooks.{first_unflagged}
use Rattle.pytest_calls.proofs.hooks.first_unflagged.Given as goal

abbrev pub invariant-loop-entry : goal.invariant-loop-entry
invariant-loop-entry l = first_unflagged l.named ≡ first_unflagged (drop l.entry-index l.named)
