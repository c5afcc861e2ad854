use Rattle.std.proofs.Common.{◌≡◌, length}
use Rattle.py_tree.specs.Statements.{parameters}
use Rattle.statement_readers.specs.Words.{params_on}
use Rattle.py_parse.proofs.heads.further_params.Given as goal

abbrev pub invariant-loop-comma : goal.invariant-loop-comma
invariant-loop-comma l = params_on (parameters l.all.items, l.p.rest.now) ≡ params_on (parameters l.fn.first.items, l.fn.p.rest.now)

abbrev pub decreases-loop-comma : goal.decreases-loop-comma
decreases-loop-comma l = length l.p.rest.now
