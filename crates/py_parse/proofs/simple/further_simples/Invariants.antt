use Rattle.std.proofs.Common.{◌≡◌, length}
use Rattle.py_tree.specs.Statements.{block}
use Rattle.statement_readers.specs.Words.{simples_on}
use Rattle.py_parse.proofs.simple.further_simples.Given as goal

abbrev pub invariant-loop-semicolon : goal.invariant-loop-semicolon
invariant-loop-semicolon l = simples_on (block l.all.items, l.p.rest.now) ≡ simples_on (block l.fn.first.items, l.fn.p.rest.now)

abbrev pub decreases-loop-semicolon : goal.decreases-loop-semicolon
decreases-loop-semicolon l = length l.p.rest.now
