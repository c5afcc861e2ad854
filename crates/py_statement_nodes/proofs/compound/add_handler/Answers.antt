use Rattle.py_statement_nodes.proofs.Forms.{handler_added}
use Rattle.py_statement_nodes.proofs.compound.add_handler.Goals as goal

pub returns : goal.returns
returns c = handler_added c.args.all.items c.push.new.self.items c.args.at c.args.class c.args.name c.in_ok-body.body c.args.body c.in_ok-body.ensures.ok c.in_ok-push.ensures.items
