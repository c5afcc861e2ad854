use Rattle.std.proofs.Common.{◌≡◌, drop}
use Rattle.py_tree.specs.Statements.{places}
use Rattle.py_grammar.specs.Context.{first_pos, in_places}
use Rattle.py_context.proofs.StatementPlaces.{over, of_single}
use Rattle.py_context.proofs.statements.in_singles.Given as goal

abbrev pub invariant-loop-single : goal.invariant-loop-single
invariant-loop-single l = first_pos (over of_single (drop l.single-index l.all)) ≡ first_pos (in_places (places l.all))
