use Rattle.std.proofs.Common.{ap, Vec, Global}
use Rattle.py_tree.specs.declared.stmt.Target.{Target}
use Rattle.py_tree.specs.Trees.{some_tree}
use Rattle.py_tree.specs.Statements.{AssignYield, takers}
use Rattle.py_statement_nodes.proofs.simple.assign_yield_stmt.Goals as goal

pub returns : goal.returns
returns c = ap (λ (ts : Vec Target Global). AssignYield c.args.at (takers ts.items) c.args.word (some_tree c.args.value)) c.in_ok-targets.ensures.ok
