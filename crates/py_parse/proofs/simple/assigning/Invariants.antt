use Rattle.std.proofs.Common.{◌≡◌, [], length}
use Rattle.py_tree.specs.Trees.{tree}
use Rattle.py_tree.specs.Statements.{takers}
use Rattle.statement_readers.specs.Words.{assigns}
use Rattle.py_parse.proofs.simple.assigning.Given as goal

abbrev pub invariant-loop-equal : goal.invariant-loop-equal
invariant-loop-equal l = assigns l.at ((takers l.targets.items, tree l.last.value), l.p.rest.now) ≡ assigns l.at (([], tree l.fn.first.value), l.fn.p.rest.now)

abbrev pub decreases-loop-equal : goal.decreases-loop-equal
decreases-loop-equal l = length l.p.rest.now
