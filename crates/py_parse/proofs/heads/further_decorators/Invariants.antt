use Rattle.std.proofs.Common.{◌≡◌, length}
use Rattle.py_tree.specs.Trees.{trees}
use Rattle.statement_readers.specs.Words.{decorators_on}
use Rattle.py_parse.proofs.heads.further_decorators.Given as goal

abbrev pub invariant-loop-at : goal.invariant-loop-at
invariant-loop-at l = decorators_on (trees l.all.items, l.p.rest.now) ≡ decorators_on (trees l.fn.first.items, l.fn.p.rest.now)

abbrev pub decreases-loop-at : goal.decreases-loop-at
decreases-loop-at l = length l.p.rest.now
