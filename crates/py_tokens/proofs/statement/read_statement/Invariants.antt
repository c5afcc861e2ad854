use Rattle.std.proofs.Common.{length, []}
use Rattle.py_tokens.specs.Reading.{Progress, spot}
use Rattle.py_tokens.proofs.statement.read_statement.Given as goal

abbrev pub invariant-loop-brackets : goal.invariant-loop-brackets
invariant-loop-brackets l = Progress (spot l.fn.tokens.items [] l.fn.cursor.place l.fn.cursor.rest.now) (spot l.tokens.items l.brackets.items l.cursor.place l.cursor.rest.now)

abbrev pub decreases-loop-brackets : goal.decreases-loop-brackets
decreases-loop-brackets l = length l.cursor.rest.now
