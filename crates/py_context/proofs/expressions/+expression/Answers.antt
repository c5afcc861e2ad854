use Rattle.std.proofs.Common.{◌≡◌, IfOk, List, [], ◌++◌, Global, refl, ap, ◌∙◌, subst}
use Rattle.std.specs.declared.rc.Rc.{Rc}
use Rattle.py_tree.specs.declared.expr.Expr.{Expr}
use Rattle.py_tree.specs.Trees.{tree, trees, some_tree}
use Rattle.py_tree.specs.declared.expr.ExprKind.TheVariants as v
use Rattle.py_grammar.specs.Context.{first_pos, in_tree, in_trees, in_maybe, wrong_arguments, places_of_each}
use Rattle.py_context.specs.Parts.{expr_parts}
use Rattle.py_context.proofs.ExpressionPlaces.{each_goes, each_over, of_kind, tuple_form, list_form, dict_form, call_form, slice_form, compare_form, and_form, or_form}
use Rattle.py_context.proofs.expressions.+expression.Goals as goal

pub parts_of-loop-item-preserved : goal.parts_of-loop-item-preserved
parts_of-loop-item-preserved t c = each_goes c.args.items.now c.loop-item.item-index c.item-item.result c.deref.result.now c.deref-in-loop-item.result.now c.in_ok-first.first c.loop-item.all.items c.push.new.self.items _ c.loop-item-test.true c.item-item.is c.deref.ensures c.deref-in-loop-item.ensures c.in_ok-first.ensures c.in_ok-push.ensures.items c.loop-item.invariant

pub in_expr-returns-in-Tuple : goal.in_expr-returns-in-Tuple
in_expr-returns-in-Tuple t c = tuple_form c.args.expr.now.at c.args.expr.now.kind c.in_all.result c.in-Tuple.items c.in-Tuple.is c.in_all.ensures

pub in_expr-returns-in-List : goal.in_expr-returns-in-List
in_expr-returns-in-List t c = list_form c.args.expr.now.at c.args.expr.now.kind c.in_all-in-List.result c.in-List.items c.in-List.is c.in_all-in-List.ensures

pub in_expr-returns-in-Dict : goal.in_expr-returns-in-Dict
in_expr-returns-in-Dict t c = dict_form c.args.expr.now.at c.args.expr.now.kind c.in_turns.result c.in-Dict.keys c.in-Dict.values c.in-Dict.is (c.in_turns.ensures c.in-Dict.keys.value.items c.in-Dict.values.value.items c.in_each.ensures c.in_each-in-Dict.ensures)

pub in_expr-returns-in-Call : goal.in_expr-returns-in-Call
in_expr-returns-in-Call t c = call_form c.args.expr.now.at c.args.expr.now.kind c.join.result c.in-Call.function c.in-Call.arguments c.in-Call.names c.in-Call.is
    (c.join.ensures (in_tree (tree c.in-Call.function.value)) (wrong_arguments [] c.in-Call.names.value.items (places_of_each (trees c.in-Call.arguments.value.items))) c.in_part-in-Call.ensures (c.in_arguments.ensures c.in-Call.arguments.value.items c.in_each-in-Call.ensures))

pub in_expr-returns-in-Subscript : goal.in_expr-returns-in-Subscript
in_expr-returns-in-Subscript t c = of_kind c.args.expr.now.at c.args.expr.now.kind c.join-in-Subscript.result (v.Subscript c.in-Subscript.of c.in-Subscript.index) c.in-Subscript.is
    (c.join-in-Subscript.ensures (in_tree (tree c.in-Subscript.of.value)) (in_tree (tree c.in-Subscript.index.value)) c.in_part-in-Subscript.ensures c.in_part-in-Subscript-2.ensures)

pub in_expr-returns-in-Slice : goal.in_expr-returns-in-Slice
in_expr-returns-in-Slice t c = slice_form c.args.expr.now.at c.args.expr.now.kind c.join-in-Slice-3.result c.in-Slice.of c.in-Slice.from c.in-Slice.to c.in-Slice.by c.in-Slice.is
    (c.join-in-Slice-3.ensures (in_tree (tree c.in-Slice.of.value)) (in_maybe (some_tree c.in-Slice.from) ++ (in_maybe (some_tree c.in-Slice.to) ++ in_maybe (some_tree c.in-Slice.by))) c.in_part-in-Slice.ensures
    (c.join-in-Slice-2.ensures (in_maybe (some_tree c.in-Slice.from)) (in_maybe (some_tree c.in-Slice.to) ++ in_maybe (some_tree c.in-Slice.by)) c.in_optional.ensures
    (c.join-in-Slice.ensures (in_maybe (some_tree c.in-Slice.to)) (in_maybe (some_tree c.in-Slice.by)) c.in_optional-in-Slice.ensures c.in_optional-in-Slice-2.ensures)))

pub in_expr-returns-in-Binary : goal.in_expr-returns-in-Binary
in_expr-returns-in-Binary t c = of_kind c.args.expr.now.at c.args.expr.now.kind c.join-in-Binary.result (v.Binary c.in-Binary.left c.in-Binary.field-1 c.in-Binary.right) c.in-Binary.is
    (c.join-in-Binary.ensures (in_tree (tree c.in-Binary.left.value)) (in_tree (tree c.in-Binary.right.value)) c.in_part-in-Binary.ensures c.in_part-in-Binary-2.ensures)

pub in_expr-returns-in-Compare : goal.in_expr-returns-in-Compare
in_expr-returns-in-Compare t c = compare_form c.args.expr.now.at c.args.expr.now.kind c.join-in-Compare.result c.in-Compare.first c.in-Compare.field-1 c.in-Compare.further c.in-Compare.is
    (c.join-in-Compare.ensures (in_tree (tree c.in-Compare.first.value)) (in_trees (trees c.in-Compare.further.value.items)) c.in_part-in-Compare.ensures c.in_all-in-Compare.ensures)

pub in_expr-returns-in-And : goal.in_expr-returns-in-And
in_expr-returns-in-And t c = and_form c.args.expr.now.at c.args.expr.now.kind c.join-in-And.result c.in-And.first c.in-And.further c.in-And.is
    (c.join-in-And.ensures (in_tree (tree c.in-And.first.value)) (in_trees (trees c.in-And.further.value.items)) c.in_part-in-And.ensures c.in_all-in-And.ensures)

pub in_expr-returns-in-Or : goal.in_expr-returns-in-Or
in_expr-returns-in-Or t c = or_form c.args.expr.now.at c.args.expr.now.kind c.join-in-Or.result c.in-Or.first c.in-Or.further c.in-Or.is
    (c.join-in-Or.ensures (in_tree (tree c.in-Or.first.value)) (in_trees (trees c.in-Or.further.value.items)) c.in_part-in-Or.ensures c.in_all-in-Or.ensures)

pub in_expr-returns-in-IfElse : goal.in_expr-returns-in-IfElse
in_expr-returns-in-IfElse t c = of_kind c.args.expr.now.at c.args.expr.now.kind c.join-in-IfElse-2.result (v.IfElse c.in-IfElse.value c.in-IfElse.condition c.in-IfElse.other) c.in-IfElse.is
    (c.join-in-IfElse-2.ensures (in_tree (tree c.in-IfElse.value.value)) (in_tree (tree c.in-IfElse.condition.value) ++ in_tree (tree c.in-IfElse.other.value)) c.in_part-in-IfElse.ensures
    (c.join-in-IfElse.ensures (in_tree (tree c.in-IfElse.condition.value)) (in_tree (tree c.in-IfElse.other.value)) c.in_part-in-IfElse-2.ensures c.in_part-in-IfElse-3.ensures))

pub in_expr-returns-in-Paren : goal.in_expr-returns-in-Paren
in_expr-returns-in-Paren t c = of_kind c.args.expr.now.at c.args.expr.now.kind c.in_part.result (v.Paren c.in-Paren.of) c.in-Paren.is c.in_part.ensures

pub in_expr-returns-in-Attribute : goal.in_expr-returns-in-Attribute
in_expr-returns-in-Attribute t c = of_kind c.args.expr.now.at c.args.expr.now.kind c.in_part-in-Attribute.result (v.Attribute c.in-Attribute.of c.in-Attribute.field-1) c.in-Attribute.is c.in_part-in-Attribute.ensures

pub in_expr-returns-in-Unary : goal.in_expr-returns-in-Unary
in_expr-returns-in-Unary t c = of_kind c.args.expr.now.at c.args.expr.now.kind c.in_part-in-Unary.result (v.Unary c.in-Unary.field-0 c.in-Unary.operand) c.in-Unary.is c.in_part-in-Unary.ensures

pub in_expr-returns-in-Not : goal.in_expr-returns-in-Not
in_expr-returns-in-Not t c = of_kind c.args.expr.now.at c.args.expr.now.kind c.in_part-in-Not.result (v.Not c.in-Not.operand) c.in-Not.is c.in_part-in-Not.ensures

pub parts_of-loop-item-init : goal.parts_of-loop-item-init
parts_of-loop-item-init t c = ap (λ z. z ++ expr_parts c.args.items.now) c.new-all.ensures.items

pub parts_of-returns : goal.parts_of-returns
parts_of-returns t c = each_over c.args.items.now c.loop-item.item-index c.loop-item.all.items _ c.loop-item-test.false c.loop-item.invariant

pub in_each-returns : goal.in_each-returns
in_each-returns t c = subst (λ (es : List (Rc Expr Global)). IfOk c.parts_of.result (λ all. all.items ≡ expr_parts es)) (c.deref-2.ensures.value ∙ ap (λ v. v.items) c.deref.ensures) c.parts_of.ensures

pub in_optional-returns-in-Some : goal.in_optional-returns-in-Some
in_optional-returns-in-Some t c = rw c.in-Some.is (subst (λ (e : Expr). IfOk c.in_expr.result (λ at. at ≡ first_pos (in_tree (tree e)))) c.deref.ensures c.in_expr.ensures)

pub in_optional-returns-in-None : goal.in_optional-returns-in-None
in_optional-returns-in-None t c = rw c.in-None.is refl

pub in_part-returns : goal.in_part-returns
in_part-returns t c = subst (λ (e : Expr). IfOk c.in_expr.result (λ at. at ≡ first_pos (in_tree (tree e)))) c.deref.ensures c.in_expr.ensures

pub in_all-returns : goal.in_all-returns
in_all-returns t c = c.in_row.ensures c.args.parts.now.value.items c.in_each.ensures
