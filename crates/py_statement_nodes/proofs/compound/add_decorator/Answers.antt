use Rattle.std.proofs.Common.{ap, ◌∙◌}
use Rattle.py_tree.specs.Trees.{Empty, trees}
use Rattle.py_tree.proofs.Rows.{trees_more}
use Rattle.py_statement_nodes.proofs.compound.add_decorator.Goals as goal

pub returns : goal.returns
returns c = ap trees c.in_ok-push.ensures.items ∙ trees_more Empty c.args.decorators.items c.args.decorator
