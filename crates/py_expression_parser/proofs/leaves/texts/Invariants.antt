use Rattle.std.proofs.Common.{◌≡◌, length}
use Rattle.py_expression_parser.specs.Pieces.{texts_more, texts_on}
use Rattle.py_expression_parser.proofs.leaves.texts.Given as goal

abbrev pub invariant-loop-next : goal.invariant-loop-next
invariant-loop-next l = texts_more (l.first.at, l.chars.items) l.p.rest.now ≡ texts_on l.fn.p.rest.now

abbrev pub decreases-loop-next : goal.decreases-loop-next
decreases-loop-next l = length l.p.rest.now
