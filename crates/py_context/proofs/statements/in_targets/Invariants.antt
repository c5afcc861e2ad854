use Rattle.std.proofs.Common.{◌≡◌, drop}
use Rattle.py_tree.specs.Statements.{takers}
use Rattle.py_grammar.specs.Context.{first_pos, in_takers}
use Rattle.py_context.proofs.StatementPlaces.{over, of_target}
use Rattle.py_context.proofs.statements.in_targets.Given as goal

abbrev pub invariant-loop-target : goal.invariant-loop-target
invariant-loop-target l = first_pos (over of_target (drop l.target-index l.all)) ≡ first_pos (in_takers (takers l.all))
