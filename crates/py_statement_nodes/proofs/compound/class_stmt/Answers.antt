use Rattle.py_statement_nodes.proofs.Forms.{class_made}
use Rattle.py_statement_nodes.proofs.compound.class_stmt.Goals as goal

pub returns : goal.returns
returns c = class_made c.args.at c.args.word c.args.name c.in_ok-decorators.decorators c.args.base c.in_ok-body.body c.in_ok-class.class c.args.decorators c.args.body c.in_ok-class.ensures.ok c.in_ok-decorators.ensures.ok c.in_ok-body.ensures.ok
