use Rattle.std.proofs.Common.{◌+◌, refl, sym, ap, ◌∙◌}
use Rattle.py_nodes.proofs.Forms.{list_kept, list_high}
use Rattle.py_nodes.proofs.expressions.list_node.Goals as goal

pub made-requires-clause-is_height : goal.made-requires-clause-is_height
made-requires-clause-is_height c = ap (λ n. 1 + n) c.args.row.all.is_height ∙ sym (list_high c.args.row.at c.in_ok-all.all c.args.row.all.items c.in_ok-all.ensures.ok)

pub returns-clause-tree : goal.returns-clause-tree
returns-clause-tree c = list_kept c.made.result c.args.row.at c.args.row.at c.in_ok-all.all c.args.row.all.items refl c.in_ok-all.ensures.ok c.made.ensures.tree
