use Rattle.std.proofs.Common.{◌≡◌, [], ◌∷◌, length}
use Rattle.statement_readers.specs.Words.{listed_on}
use Rattle.py_parse.proofs.simple.further_listed.Given as goal

abbrev pub invariant-loop-comma : goal.invariant-loop-comma
invariant-loop-comma l = listed_on (l.all.items, l.p.rest.now) ≡ listed_on (l.fn.first ∷ [], l.fn.p.rest.now)

abbrev pub decreases-loop-comma : goal.decreases-loop-comma
decreases-loop-comma l = length l.p.rest.now
