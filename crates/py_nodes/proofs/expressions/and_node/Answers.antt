use Rattle.std.proofs.Common.{◌+◌, max, sym, ap, ◌∙◌}
use Rattle.py_expressions.specs.Values.{at_of, height}
use Rattle.py_tree.specs.Trees.{tree}
use Rattle.py_nodes.proofs.Forms.{and_kept, and_high}
use Rattle.py_nodes.proofs.expressions.and_node.Goals as goal

pub made-requires-clause-is_height : goal.made-requires-clause-is_height
made-requires-clause-is_height c = ap (λ n. 1 + n) (c.max-height.ensures ∙ ap (λ n. max n c.args.chain.more.height) c.args.chain.head.is_height ∙ ap (λ n. max (height (tree c.args.chain.head.expr.value)) n) c.args.chain.more.is_height) ∙ sym (and_high c.place_of-at.result c.args.chain.head.expr c.in_ok-more.more c.args.chain.more.items c.in_ok-more.ensures.ok)

pub returns-clause-tree : goal.returns-clause-tree
returns-clause-tree c = and_kept c.made.result c.place_of-at.result (at_of (tree c.args.chain.head.expr.value)) c.args.chain.head.expr c.in_ok-more.more c.args.chain.more.items c.place_of-at.ensures c.in_ok-more.ensures.ok c.made.ensures.tree
