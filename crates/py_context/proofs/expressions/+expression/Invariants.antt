use Rattle.std.proofs.Common.{◌≡◌, ◌++◌, drop}
use Rattle.py_context.specs.Parts.{expr_parts}
use Rattle.py_context.proofs.expressions.+expression.Given as goal

abbrev pub invariant-parts_of-loop-item : goal.invariant-parts_of-loop-item
invariant-parts_of-loop-item l = l.all.items ++ expr_parts (drop l.item-index l.items) ≡ expr_parts l.items
