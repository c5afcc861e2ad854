use Rattle.std.proofs.Common.{length}
use Rattle.py_tokens.specs.Reading.{PassesGaps}
use Rattle.py_tokens.proofs.line.pass_gaps.Given as goal

abbrev pub invariant-loop-gap : goal.invariant-loop-gap
invariant-loop-gap l = PassesGaps l.fn.cursor.place l.fn.cursor.rest.now l.cursor.place l.cursor.rest.now

abbrev pub decreases-loop-gap : goal.decreases-loop-gap
decreases-loop-gap l = length l.cursor.rest.now
