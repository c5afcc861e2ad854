use Rattle.py_statement_nodes.proofs.Forms.{try_made}
use Rattle.py_statement_nodes.proofs.compound.try_stmt.Goals as goal

pub returns : goal.returns
returns c = try_made c.args.at c.in_ok-body.body c.in_ok-all.all c.in_ok-other.other c.in_ok-last.last c.args.body c.args.all c.args.other c.args.last c.in_ok-body.ensures.ok c.in_ok-all.ensures.ok c.in_ok-other.ensures.ok c.in_ok-last.ensures.ok
