use Rattle.std.proofs.Common.{ap, ◌∙◌}
use Rattle.py_tree.specs.Statements.{takers}
use Rattle.py_statement_nodes.proofs.Rows.{takers_more}
use Rattle.py_statement_nodes.proofs.targets.add_target.Goals as goal

pub returns : goal.returns
returns c = ap takers c.in_ok-push.ensures.items ∙ takers_more c.args.targets.items c.args.target
