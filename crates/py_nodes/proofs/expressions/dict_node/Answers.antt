use Rattle.std.proofs.Common.{◌+◌, max, refl, sym, ap, ◌∙◌}
use Rattle.py_expressions.specs.Values.{heights}
use Rattle.py_tree.specs.Trees.{trees}
use Rattle.py_nodes.proofs.Forms.{dict_kept, dict_high}
use Rattle.py_nodes.proofs.expressions.dict_node.Goals as goal

pub made-requires-clause-is_height : goal.made-requires-clause-is_height
made-requires-clause-is_height c = ap (λ n. 1 + n) (c.max-height.ensures ∙ ap (λ n. max n c.args.pairs.values.height) c.args.pairs.names.is_height ∙ ap (λ n. max (heights (trees c.args.pairs.names.items.items)) n) c.args.pairs.values.is_height) ∙ sym (dict_high c.args.pairs.at c.in_ok-names.names c.in_ok-values.values c.args.pairs.names.items c.args.pairs.values.items c.in_ok-names.ensures.ok c.in_ok-values.ensures.ok)

pub returns-clause-tree : goal.returns-clause-tree
returns-clause-tree c = dict_kept c.made.result c.args.pairs.at c.args.pairs.at c.in_ok-names.names c.in_ok-values.values c.args.pairs.names.items c.args.pairs.values.items refl c.in_ok-names.ensures.ok c.in_ok-values.ensures.ok c.made.ensures.tree
