use Rattle.std.proofs.Common.{◌+◌, max, sym, ap, ◌∙◌}
use Rattle.py_expressions.specs.Values.{at_of, height}
use Rattle.py_tree.specs.Trees.{tree}
use Rattle.py_nodes.proofs.Forms.{call_kept, call_high}
use Rattle.py_nodes.proofs.expressions.call_node.Goals as goal

pub made-requires-clause-is_height : goal.made-requires-clause-is_height
made-requires-clause-is_height c = ap (λ n. 1 + n) (c.max-height.ensures ∙ ap (λ n. max n c.args.arguments.all.height) c.args.function.is_height ∙ ap (λ n. max (height (tree c.args.function.expr.value)) n) c.args.arguments.all.is_height) ∙ sym (call_high c.place_of-at.result c.args.function.expr c.in_ok-all.all c.in_ok-names.names c.args.arguments.all.items c.args.arguments.names c.in_ok-all.ensures.ok c.in_ok-names.ensures.ok)

pub returns-clause-tree : goal.returns-clause-tree
returns-clause-tree c = call_kept c.made.result c.place_of-at.result (at_of (tree c.args.function.expr.value)) c.args.function.expr c.in_ok-all.all c.in_ok-names.names c.args.arguments.all.items c.args.arguments.names c.place_of-at.ensures c.in_ok-all.ensures.ok c.in_ok-names.ensures.ok c.made.ensures.tree
