use Rattle.py_statement_nodes.proofs.Forms.{if_made}
use Rattle.py_statement_nodes.proofs.compound.if_stmt.Goals as goal

pub returns : goal.returns
returns c = if_made c.args.at c.in_ok-all.all c.in_ok-other.other c.args.all c.args.other c.in_ok-all.ensures.ok c.in_ok-other.ensures.ok
