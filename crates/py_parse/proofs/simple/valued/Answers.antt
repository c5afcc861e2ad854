use Rattle.std.proofs.Common.{◌≡◌, None, Some, sym, ap, ◌∙◌}
use Rattle.py_tree.specs.declared.expr.Expr.{Expr}
use Rattle.py_tree.specs.Trees.{tree}
use Rattle.parsing.specs.Reading.{Found}
use Rattle.py_nodes.proofs.Forms.{place_is}
use Rattle.py_cursor.specs.py_expressions.Values.{place_in}
use Rattle.py_expression_parser.proofs.Made.{part_fails}
use Rattle.statement_readers.specs.Words.{value_statement, change_on}
use Rattle.py_parse.proofs.simple.valued.Goals as goal

pub returns-in_default : goal.returns-in_default
unfolding value_statement
returns-in_default c = part_fails c.expressions.new.p.stop _ _ c.in_default.ensures.reads

pub returns-in_default-take_meant : goal.returns-in_default-take_meant
unfolding value_statement
returns-in_default-take_meant c =
    let a = place_is c.in-Some.first.expr.value ∙ ap (λ (e : Expr). e.at) (sym c.deref.ensures) in
    let m : change_on c.expressions.new.p.rest.now ≡ None = c.in_default-take_meant.ensures.0 in
    rw (c.in-Some.ensures.reads, m, a, sym c.in_default-take_meant.ensures.1) c.assigning.ensures

pub returns-in_default-made : goal.returns-in_default-made
returns-in_default-made c = rw (c.in_default-made.ensures.makes) tt

pub returns-in_default-found : goal.returns-in_default-found
unfolding value_statement
returns-in_default-found c =
    let a = place_is c.in-Some.first.expr.value ∙ ap (λ (e : Expr). e.at) (sym c.deref.ensures) in
    let m : change_on c.expressions.new.p.rest.now ≡ Some ((c.in-Some-take_meant._word.now, c.in-Some-take_meant.op), c.take_meant.new.self.rest.now) = c.in-Some-take_meant.ensures in
    let n = ap (λ e. place_in (tree e)) (sym c.deref-2.ensures) ∙ rw c.in_default-found.is at (rw c.in-Some-made.ensures.makes.0 at c.single_in.ensures) in
    rw (c.in-Some.ensures.reads, m, n, a) c.assigning-in_default-found.ensures

pub returns-in_default-expression : goal.returns-in_default-expression
unfolding value_statement
returns-in_default-expression c =
    let m : change_on c.expressions.new.p.rest.now ≡ Some ((c.in-Some-take_meant._word.now, c.in-Some-take_meant.op), c.take_meant.new.self.rest.now) = c.in-Some-take_meant.ensures in
    let s = ap (λ e. place_in (tree e)) (sym c.deref-2.ensures) ∙ rw c.in-Some-found.is at (rw c.in-Some-made.ensures.makes.0 at c.single_in.ensures) in
    rw (c.in-Some.ensures.reads, m, s) (part_fails c.expression.new.p.stop _ _ (rw c.in-Some-made.ensures.makes.1 at c.in_default-expression.ensures.reads))

pub returns : goal.returns
unfolding value_statement
returns c =
    let a = place_is c.in-Some.first.expr.value ∙ ap (λ (e : Expr). e.at) (sym c.deref.ensures) in
    let m : change_on c.expressions.new.p.rest.now ≡ Some ((c.in-Some-take_meant._word.now, c.in-Some-take_meant.op), c.take_meant.new.self.rest.now) = c.in-Some-take_meant.ensures in
    let s = ap (λ e. place_in (tree e)) (sym c.deref-2.ensures) ∙ rw c.in-Some-found.is at (rw c.in-Some-made.ensures.makes.0 at c.single_in.ensures) in
    let r = rw c.in-Some-made.ensures.makes.1 at c.in-Some-expression.ensures.reads in
    rw (c.in-Some.ensures.reads, m, s, r, a) (ap (λ s. Found s c.expression.new.p.rest.now) (sym c.aug_assign_stmt.ensures))
