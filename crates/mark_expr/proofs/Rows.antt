-- What a MarkExpr with a row of parts holds.
use Rattle.std.proofs.Common.{◌≡◌, refl, ap, ◌∙◌, Vec, Global, Box}
use mathlib.Core.Former.{Count}
use Rattle.mark_expr.specs.declared.tree.MarkExpr.{MarkExpr, And', Or', Row_of-MarkExpr, end_of-MarkExpr, more_of-MarkExpr, items-the_row-MarkExpr, items_hidden-the_row-MarkExpr-0}
use Rattle.mark_expr.specs.declared.tree.MarkExpr.TheVariants as exprs
use Rattle.mark_expr.specs.Expression.{ExpressionTree, Conjunction, Disjunction, view, joined_left, joined_row}

row_joined : {m : _} (f : ExpressionTree → ExpressionTree → ExpressionTree) (a : ExpressionTree) (k : Row_of-MarkExpr m) → joined_row f a k ≡ joined_left f a (items-the_row-MarkExpr m k)
row_joined f a end_of-MarkExpr = refl
row_joined f a (more_of-MarkExpr e rest) = row_joined f (f a (view e)) rest

abbrev row_in : MarkExpr → (n : Count) × Row_of-MarkExpr n
row_in (And' p first shape more) = (_, more)
row_in (Or' p first shape more) = (_, more)
row_in _ = (_, end_of-MarkExpr)

pub and_view : (first : Box MarkExpr Global) (more : Vec MarkExpr Global) → view (exprs.And first more) ≡ joined_left Conjunction (view first.value) more.items
and_view first more = row_joined Conjunction (view first.value) (row_in (exprs.And first more)).1 ∙ ap (joined_left Conjunction (view first.value)) (items_hidden-the_row-MarkExpr-0 more)

pub or_view : (first : Box MarkExpr Global) (more : Vec MarkExpr Global) → view (exprs.Or first more) ≡ joined_left Disjunction (view first.value) more.items
or_view first more = row_joined Disjunction (view first.value) (row_in (exprs.Or first more)).1 ∙ ap (joined_left Disjunction (view first.value)) (items_hidden-the_row-MarkExpr-0 more)
