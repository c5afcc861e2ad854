use Rattle.py_statement_nodes.proofs.Forms.{def_made}
use Rattle.py_statement_nodes.proofs.compound.def_stmt.Goals as goal

pub returns : goal.returns
returns c = def_made c.args.at c.args.word c.args.name c.in_ok-decorators.decorators c.in_ok-params.params c.args.returns c.in_ok-body.body c.in_ok-function.function c.args.decorators c.args.params c.args.body c.in_ok-function.ensures.ok c.in_ok-decorators.ensures.ok c.in_ok-params.ensures.ok c.in_ok-body.ensures.ok
