use Rattle.py_statement_nodes.proofs.Forms.{with_made}
use Rattle.py_statement_nodes.proofs.compound.with_stmt.Goals as goal

pub returns : goal.returns
returns c = with_made c.args.at c.args.context c.args.name c.in_ok-body.body c.args.body c.in_ok-body.ensures.ok
