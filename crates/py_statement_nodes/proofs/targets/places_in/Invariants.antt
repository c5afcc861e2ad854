use Rattle.std.proofs.Common.{◌≡◌, Some, drop}
use Rattle.py_tree.specs.Trees.{trees}
use Rattle.py_tree.specs.Statements.{places}
use Rattle.py_nodes.specs.py_expressions.Values.{places_in}
use Rattle.py_statement_nodes.proofs.Rows.{onward}
use Rattle.py_statement_nodes.proofs.targets.places_in.Given as goal

abbrev pub invariant-loop-item : goal.invariant-loop-item
invariant-loop-item l = onward (Some (places l.all.items)) (drop l.item-index l.items) ≡ places_in (trees l.items)
