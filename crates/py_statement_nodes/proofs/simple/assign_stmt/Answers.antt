use Rattle.std.proofs.Common.{ap, Vec, Global}
use Rattle.py_tree.specs.declared.stmt.Target.{Target}
use Rattle.py_tree.specs.Trees.{tree}
use Rattle.py_tree.specs.Statements.{Assign, takers}
use Rattle.py_statement_nodes.proofs.simple.assign_stmt.Goals as goal

pub returns : goal.returns
returns c = ap (λ (ts : Vec Target Global). Assign c.args.at (takers ts.items) (tree c.args.value.value)) c.in_ok-targets.ensures.ok
