use Rattle.std.proofs.Common.{◌≡◌, [], length}
use Rattle.py_context.specs.Parts.{first_argument}
use Rattle.py_context.proofs.expressions.first_argument.Given as goal

abbrev pub invariant-loop-argument : goal.invariant-loop-argument
invariant-loop-argument l = first_argument l.before.items l.names l.arguments ≡ first_argument [] l.fn.names l.fn.arguments

abbrev pub decreases-loop-argument : goal.decreases-loop-argument
decreases-loop-argument l = length l.arguments
