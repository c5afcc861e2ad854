use Rattle.std.proofs.Common.{◌≡◌, length}
use Rattle.py_context.specs.Parts.{first_of}
use Rattle.py_context.proofs.expressions.first_of.Given as goal

abbrev pub invariant-loop-part : goal.invariant-loop-part
invariant-loop-part l = first_of l.parts ≡ first_of l.fn.parts

abbrev pub decreases-loop-part : goal.decreases-loop-part
decreases-loop-part l = length l.parts
