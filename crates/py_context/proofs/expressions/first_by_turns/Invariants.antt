use Rattle.std.proofs.Common.{◌≡◌, length}
use Rattle.py_context.specs.Parts.{first_by_turns}
use Rattle.py_context.proofs.expressions.first_by_turns.Given as goal

abbrev pub invariant-loop-key : goal.invariant-loop-key
invariant-loop-key l = first_by_turns l.keys l.values ≡ first_by_turns l.fn.keys l.fn.values

abbrev pub decreases-loop-key : goal.decreases-loop-key
decreases-loop-key l = length l.keys
