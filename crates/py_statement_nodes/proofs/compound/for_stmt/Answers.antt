use Rattle.py_statement_nodes.proofs.Forms.{for_made}
use Rattle.py_statement_nodes.proofs.compound.for_stmt.Goals as goal

pub returns : goal.returns
returns c = for_made c.args.at c.args.target c.args.items c.in_ok-body.body c.args.body c.in_ok-body.ensures.ok
