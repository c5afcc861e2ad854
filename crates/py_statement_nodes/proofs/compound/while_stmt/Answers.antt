use Rattle.py_statement_nodes.proofs.Forms.{while_made}
use Rattle.py_statement_nodes.proofs.compound.while_stmt.Goals as goal

pub returns : goal.returns
returns c = while_made c.args.at c.args.condition c.in_ok-body.body c.args.body c.in_ok-body.ensures.ok
