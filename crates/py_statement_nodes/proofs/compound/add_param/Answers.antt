use Rattle.std.proofs.Common.{ap, ◌∙◌}
use Rattle.py_tree.specs.Statements.{parameters}
use Rattle.py_statement_nodes.proofs.Rows.{parameters_more}
use Rattle.py_statement_nodes.proofs.compound.add_param.Goals as goal

pub returns : goal.returns
returns c = ap parameters c.in_ok-push.ensures.items ∙ parameters_more c.args.params.items _
