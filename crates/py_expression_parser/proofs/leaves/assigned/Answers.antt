use Rattle.std.proofs.Common.{sym, ap, ◌∙◌}
use Rattle.py_tree.specs.Trees.{tree}
use Rattle.py_cursor.specs.py_expressions.Values.{name_in}
use Rattle.py_expression_parser.proofs.Made.{nameless}
use Rattle.py_expression_parser.proofs.leaves.assigned.Goals as goal

pub returns-in_default-found : goal.returns-in_default-found
returns-in_default-found c = let n = rw c.in-Some.ensures.makes.0 at c.name_in.ensures in
    (nameless (tree c.args.value.now.expr.value) c.args.p.now.rest.now (ap (λ e. name_in (tree e)) (sym c.deref.ensures) ∙ n ∙ c.in_default-found.is), c.in-Some.ensures.makes.1)
