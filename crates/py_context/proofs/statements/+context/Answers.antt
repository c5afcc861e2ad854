use Rattle.std.proofs.Common.{◌≡◌, IfOk, [], true, false, not, ◌++◌, ◌-◌, refl, sym, ap, ◌∙◌, subst, arith}
use Rattle.py_tree.specs.declared.stmt.StmtKind.TheVariants as v
use Rattle.py_tree.specs.Trees.{tree, trees, some_tree}
use Rattle.py_tree.specs.Names.{globals_of}
use Rattle.py_tree.specs.Statements.{taker, parameters, block, branches, handlers}
use Rattle.py_tree.specs.declared.stmt.Branch.{out-Branch}
use Rattle.py_tree.specs.declared.stmt.Handler.{out-Handler}
use Rattle.py_tree.specs.declared.stmt.Class.{out-Class}
use Rattle.py_tree.specs.declared.stmt.Function.{out-Function}
use Rattle.py_grammar.specs.Context.{first_pos, unless, in_tree, in_trees, in_maybe, in_taker, in_params, misplaced, misplaced_branches, misplaced_handlers}
use Rattle.py_context.specs.Standing.{where_of}
use Rattle.py_context.proofs.StatementPlaces.{of_kind, loop_form, global_form, import_form, stmt_begun, stmt_found, stmt_on, stmt_none, branch_begun, branch_none, handler_begun, handler_on, handler_over, handler_found, branch_found_in, branch_on_in, if_form, while_form, with_form, for_form, try_form, def_form, class_form, class_joined, def_joined, handler_joined}
use Rattle.py_context.proofs.statements.+context.Goals as goal

pub in_branches-returns-in-Some : goal.in_branches-returns-in-Some
in_branches-returns-in-Some t c =
    let x = c.branch-item.result in
    branch_found_in (where_of c.args.w) c.args.all.now c.loop-branch.branch-index x c.in-Some.at _ c.loop-branch-test.true c.branch-item.is
    (sym c.in-Some.is ∙ c.in_ok-at.ensures (in_tree (tree (out-Branch x).condition.value)) (misplaced (where_of c.args.w) (block (out-Branch x).body.value.items)) c.in_part-head.ensures c.in_block.ensures)
    c.loop-branch.invariant

pub in_branches-loop-branch-preserved : goal.in_branches-loop-branch-preserved
in_branches-loop-branch-preserved t c =
    let x = c.branch-item.result in
    branch_on_in (where_of c.args.w) c.args.all.now c.loop-branch.branch-index x _ c.loop-branch-test.true c.branch-item.is
    (sym c.in_default.is ∙ c.in_ok-at.ensures (in_tree (tree (out-Branch x).condition.value)) (misplaced (where_of c.args.w) (block (out-Branch x).body.value.items)) c.in_part-head.ensures c.in_block.ensures)
    c.loop-branch.invariant

pub in_class-returns : goal.in_class-returns
in_class-returns t c =
    let k = c.args.class.now in
    let u = where_of c.inside_class.result in
    class_joined (where_of c.args.w) c.args.at k c.is_module.result u c.join-3.result c.is_module.ensures c.inside_class.ensures
    (c.join-3.ensures (unless c.is_module.result c.args.at) (in_trees (trees (out-Class k).decorators.value.items) ++ (in_maybe (some_tree (out-Class k).base) ++ misplaced u (block (out-Class k).body.value.items))) c.unless.ensures
    (c.join-2.ensures (in_trees (trees (out-Class k).decorators.value.items)) (in_maybe (some_tree (out-Class k).base) ++ misplaced u (block (out-Class k).body.value.items)) c.in_all.ensures
    (c.join.ensures (in_maybe (some_tree (out-Class k).base)) (misplaced u (block (out-Class k).body.value.items)) c.in_optional.ensures c.in_block.ensures)))

pub in_def-returns : goal.in_def-returns
in_def-returns t c =
    let f = c.args.function.now in
    let u = where_of c.inside_function.result in
    def_joined (where_of c.args.w) c.args.at f c.is_function.result u c.join-4.result c.is_function.ensures c.inside_function.ensures
    (c.join-4.ensures (unless (not c.is_function.result) c.args.at) (in_trees (trees (out-Function f).decorators.value.items) ++ (in_params (globals_of (block (out-Function f).body.value.items)) [] false (parameters (out-Function f).params.value.items) ++ (in_maybe (some_tree (out-Function f).returns) ++ misplaced u (block (out-Function f).body.value.items)))) c.unless.ensures
    (c.join-3.ensures (in_trees (trees (out-Function f).decorators.value.items)) (in_params (globals_of (block (out-Function f).body.value.items)) [] false (parameters (out-Function f).params.value.items) ++ (in_maybe (some_tree (out-Function f).returns) ++ misplaced u (block (out-Function f).body.value.items))) c.in_all.ensures
    (c.join-2.ensures (in_params (globals_of (block (out-Function f).body.value.items)) [] false (parameters (out-Function f).params.value.items)) (in_maybe (some_tree (out-Function f).returns) ++ misplaced u (block (out-Function f).body.value.items)) c.in_own_params.ensures
    (c.join.ensures (in_maybe (some_tree (out-Function f).returns)) (misplaced u (block (out-Function f).body.value.items)) c.in_optional.ensures c.in_block.ensures))))

pub in_handler-returns : goal.in_handler-returns
in_handler-returns t c =
    let h = c.args.handler.now in
    let u = where_of c.without_yield.result in
    handler_joined (where_of c.args.w) c.args.is_last h c.may_catch.result u c.join-2.result c.may_catch.ensures c.without_yield.ensures
    (c.join-2.ensures (unless c.may_catch.result (out-Handler h).at) (in_maybe (some_tree (out-Handler h).class) ++ misplaced u (block (out-Handler h).body.value.items)) c.unless.ensures
    (c.join.ensures (in_maybe (some_tree (out-Handler h).class)) (misplaced u (block (out-Handler h).body.value.items)) c.in_optional.ensures c.in_block.ensures))

pub in_stmt-returns-in-If : goal.in_stmt-returns-in-If
in_stmt-returns-in-If t c = if_form (where_of c.args.w) c.args.stmt.now.at c.args.stmt.now.kind c.in-If.all c.in-If.other c.deref-in-If-2.result.now c.join.result c.in-If.is (c.deref-in-If-2.ensures.value ∙ ap (λ v. v.items) c.deref-in-If.ensures)
    (c.join.ensures (misplaced_branches (where_of c.args.w) (branches c.deref-in-If-2.result.now)) (misplaced (where_of c.args.w) (block c.in-If.other.value.items)) c.in_branches.ensures c.in_block.ensures)

pub in_stmt-returns-in-While : goal.in_stmt-returns-in-While
in_stmt-returns-in-While t c = while_form (where_of c.args.w) c.args.stmt.now.at c.args.stmt.now.kind c.in-While.condition c.in-While.body (where_of c.in_loop_of.result) c.join-in-While.result c.in-While.is c.in_loop_of.ensures
    (c.join-in-While.ensures (in_tree (tree c.in-While.condition.value)) (misplaced (where_of c.in_loop_of.result) (block c.in-While.body.value.items)) c.in_part-in-While.ensures c.in_block-in-While.ensures)

pub in_stmt-returns-in-With : goal.in_stmt-returns-in-With
in_stmt-returns-in-With t c = with_form (where_of c.args.w) c.args.stmt.now.at c.args.stmt.now.kind c.in-With.context c.in-With.field-1 c.in-With.body (where_of c.without_yield-in-With.result) c.join-in-With.result c.in-With.is c.without_yield-in-With.ensures
    (c.join-in-With.ensures (in_tree (tree c.in-With.context.value)) (misplaced (where_of c.without_yield-in-With.result) (block c.in-With.body.value.items)) c.in_part-in-With.ensures c.in_block-in-With.ensures)

pub in_stmt-returns-in-For : goal.in_stmt-returns-in-For
in_stmt-returns-in-For t c = for_form (where_of c.args.w) c.args.stmt.now.at c.args.stmt.now.kind c.in-For.target c.in-For.items c.in-For.body (where_of c.in_loop_of-in-For.result) c.join-in-For-2.result c.in-For.is c.in_loop_of-in-For.ensures
    (c.join-in-For-2.ensures (in_taker (taker c.in-For.target)) (in_tree (tree c.in-For.items.value) ++ misplaced (where_of c.in_loop_of-in-For.result) (block c.in-For.body.value.items)) c.in_target.ensures
    (c.join-in-For.ensures (in_tree (tree c.in-For.items.value)) (misplaced (where_of c.in_loop_of-in-For.result) (block c.in-For.body.value.items)) c.in_part-in-For.ensures c.in_block-in-For.ensures))

pub in_stmt-returns-in-Try : goal.in_stmt-returns-in-Try
in_stmt-returns-in-Try t c = try_form (where_of c.args.w) c.args.stmt.now.at c.args.stmt.now.kind c.in-Try.body c.in-Try.all c.in-Try.other c.in-Try.last c.deref-in-Try-2.result.now (where_of c.without_yield.result) (where_of c.without_yield-in-Try.result) c.join-in-Try-3.result c.in-Try.is (c.deref-in-Try-2.ensures.value ∙ ap (λ v. v.items) c.deref-in-Try.ensures) c.without_yield.ensures c.without_yield-in-Try.ensures
    (c.join-in-Try-3.ensures (misplaced (where_of c.args.w) (block c.in-Try.body.value.items)) (misplaced_handlers (where_of c.args.w) true (handlers c.deref-in-Try-2.result.now) ++ (misplaced (where_of c.without_yield.result) (block c.in-Try.other.value.items) ++ misplaced (where_of c.without_yield-in-Try.result) (block c.in-Try.last.value.items))) c.in_block-in-Try.ensures
    (c.join-in-Try-2.ensures (misplaced_handlers (where_of c.args.w) true (handlers c.deref-in-Try-2.result.now)) (misplaced (where_of c.without_yield.result) (block c.in-Try.other.value.items) ++ misplaced (where_of c.without_yield-in-Try.result) (block c.in-Try.last.value.items)) c.in_handlers.ensures
    (c.join-in-Try.ensures (misplaced (where_of c.without_yield.result) (block c.in-Try.other.value.items)) (misplaced (where_of c.without_yield-in-Try.result) (block c.in-Try.last.value.items)) c.in_block-in-Try-2.ensures c.in_block-in-Try-3.ensures)))

pub in_stmt-returns-in-Def : goal.in_stmt-returns-in-Def
in_stmt-returns-in-Def t c = def_form (where_of c.args.w) c.args.stmt.now.at c.args.stmt.now.kind c.in-Def.function c.deref-in-Def.result.now c.in_def.result c.in-Def.is c.deref-in-Def.ensures c.in_def.ensures

pub in_stmt-returns-in-Class : goal.in_stmt-returns-in-Class
in_stmt-returns-in-Class t c = class_form (where_of c.args.w) c.args.stmt.now.at c.args.stmt.now.kind c.in-Class.class c.deref-in-Class.result.now c.in_class.result c.in-Class.is c.deref-in-Class.ensures c.in_class.ensures

pub in_handlers-returns-in-Some : goal.in_handlers-returns-in-Some
in_handlers-returns-in-Some t c = handler_found (where_of c.args.w) c.args.all.now c.loop-handler.handler-index (c.loop-handler.further - 1) c.handler-item.result c.in-Some.at _ c.loop-handler-test.true (omega (arith, c.loop-handler.invariant.further)) c.handler-item.is (sym c.in-Some.is ∙ c.in_ok-at.ensures) c.loop-handler.invariant.rest

pub in_stmt-returns-in-Expr : goal.in_stmt-returns-in-Expr
in_stmt-returns-in-Expr t c = of_kind (where_of c.args.w) c.args.stmt.now.at c.args.stmt.now.kind (v.Expr c.in-Expr.value) c.in_part.result c.in-Expr.is c.in_part.ensures

pub in_stmt-returns-in-Assign : goal.in_stmt-returns-in-Assign
in_stmt-returns-in-Assign t c = of_kind (where_of c.args.w) c.args.stmt.now.at c.args.stmt.now.kind (v.Assign c.in-Assign.targets c.in-Assign.value) c.in_assign.result c.in-Assign.is c.in_assign.ensures

pub in_stmt-returns-in-AssignYield : goal.in_stmt-returns-in-AssignYield
in_stmt-returns-in-AssignYield t c = of_kind (where_of c.args.w) c.args.stmt.now.at c.args.stmt.now.kind (v.AssignYield c.in-AssignYield.targets c.in-AssignYield.given) c.in_assign_yield.result c.in-AssignYield.is c.in_assign_yield.ensures

pub in_stmt-returns-in-AugAssign : goal.in_stmt-returns-in-AugAssign
in_stmt-returns-in-AugAssign t c = of_kind (where_of c.args.w) c.args.stmt.now.at c.args.stmt.now.kind (v.AugAssign c.in-AugAssign.single c.in-AugAssign.field-1 c.in-AugAssign.value) c.in_aug_assign.result c.in-AugAssign.is c.in_aug_assign.ensures

pub in_stmt-returns-in-Return : goal.in_stmt-returns-in-Return
in_stmt-returns-in-Return t c = of_kind (where_of c.args.w) c.args.stmt.now.at c.args.stmt.now.kind (v.Return c.in-Return.value) c.in_return.result c.in-Return.is c.in_return.ensures

pub in_stmt-returns-in-ReturnYield : goal.in_stmt-returns-in-ReturnYield
in_stmt-returns-in-ReturnYield t c = of_kind (where_of c.args.w) c.args.stmt.now.at c.args.stmt.now.kind (v.ReturnYield c.in-ReturnYield.given) c.in_return_yield.result c.in-ReturnYield.is c.in_return_yield.ensures

pub in_stmt-returns-in-Raise : goal.in_stmt-returns-in-Raise
in_stmt-returns-in-Raise t c = of_kind (where_of c.args.w) c.args.stmt.now.at c.args.stmt.now.kind (v.Raise c.in-Raise.value) c.in_optional.result c.in-Raise.is c.in_optional.ensures

pub in_stmt-returns-in-Assert : goal.in_stmt-returns-in-Assert
in_stmt-returns-in-Assert t c = of_kind (where_of c.args.w) c.args.stmt.now.at c.args.stmt.now.kind (v.Assert c.in-Assert.condition c.in-Assert.message) c.in_assert.result c.in-Assert.is c.in_assert.ensures

pub in_stmt-returns-in-Del : goal.in_stmt-returns-in-Del
in_stmt-returns-in-Del t c = of_kind (where_of c.args.w) c.args.stmt.now.at c.args.stmt.now.kind (v.Del c.in-Del.single) c.in_single.result c.in-Del.is c.in_single.ensures

pub in_stmt-returns-in-Yield : goal.in_stmt-returns-in-Yield
in_stmt-returns-in-Yield t c = of_kind (where_of c.args.w) c.args.stmt.now.at c.args.stmt.now.kind (v.Yield c.in-Yield.given) c.in_yield.result c.in-Yield.is c.in_yield.ensures

pub in_stmt-returns-in-Global : goal.in_stmt-returns-in-Global
in_stmt-returns-in-Global t c = global_form (where_of c.args.w) c.args.stmt.now.at c.args.stmt.now.kind c.in-Global.field-0 c.is_function.result c.unless.result c.in-Global.is c.is_function.ensures c.unless.ensures

pub in_stmt-returns-in-Import : goal.in_stmt-returns-in-Import
in_stmt-returns-in-Import t c = import_form (where_of c.args.w) c.args.stmt.now.at c.args.stmt.now.kind c.in-Import.names c.in-Import.alias c.deref-in-Import.result.now c.is_bound.result c.unless-in-Import.result c.in-Import.is (c.deref-in-Import.ensures.value ∙ ap (λ v. v.items) c.deref.ensures) c.is_bound.ensures c.unless-in-Import.ensures

pub in_stmt-returns-in-Break : goal.in_stmt-returns-in-Break
in_stmt-returns-in-Break t c = loop_form (where_of c.args.w) c.args.stmt.now.at c.args.stmt.now.kind c.unless-in-Break.result c.in-Break.is c.unless-in-Break.ensures

pub in_stmt-returns-in-Pass : goal.in_stmt-returns-in-Pass
in_stmt-returns-in-Pass t c = rw c.in-Pass.is refl

pub in_stmt-returns-in-ImportFrom : goal.in_stmt-returns-in-ImportFrom
in_stmt-returns-in-ImportFrom t c = rw c.in-ImportFrom.is refl

pub in_stmts-loop-stmt-init : goal.in_stmts-loop-stmt-init
in_stmts-loop-stmt-init t c = stmt_begun (where_of c.args.w) c.args.stmts.now

pub in_stmts-returns-in-Some : goal.in_stmts-returns-in-Some
in_stmts-returns-in-Some t c = stmt_found (where_of c.args.w) c.args.stmts.now c.loop-stmt.stmt-index c.stmt-item.result c.in-Some.at _ c.loop-stmt-test.true c.stmt-item.is (sym c.in-Some.is ∙ c.in_ok-at.ensures) c.loop-stmt.invariant

pub in_stmts-loop-stmt-preserved : goal.in_stmts-loop-stmt-preserved
in_stmts-loop-stmt-preserved t c = stmt_on (where_of c.args.w) c.args.stmts.now c.loop-stmt.stmt-index c.stmt-item.result _ c.loop-stmt-test.true c.stmt-item.is (sym c.in_default.is ∙ c.in_ok-at.ensures) c.loop-stmt.invariant

pub in_stmts-returns : goal.in_stmts-returns
in_stmts-returns t c = stmt_none (where_of c.args.w) c.args.stmts.now c.loop-stmt.stmt-index _ c.loop-stmt-test.false c.loop-stmt.invariant

pub in_block-returns : goal.in_block-returns
in_block-returns t c = subst (λ s. IfOk c.in_stmts.result (λ at. at ≡ first_pos (misplaced (where_of c.args.w) (block s)))) (c.deref-2.ensures.value ∙ ap (λ v. v.items) c.deref.ensures) c.in_stmts.ensures

pub in_branches-loop-branch-init : goal.in_branches-loop-branch-init
in_branches-loop-branch-init t c = branch_begun (where_of c.args.w) c.args.all.now

pub in_branches-returns : goal.in_branches-returns
in_branches-returns t c = branch_none (where_of c.args.w) c.args.all.now c.loop-branch.branch-index _ c.loop-branch-test.false c.loop-branch.invariant

pub in_handlers-loop-handler-init : goal.in_handlers-loop-handler-init
in_handlers-loop-handler-init t c = record { rest = handler_begun (where_of c.args.w) c.args.all.now; further = omega arith }

pub in_handlers-loop-handler-preserved : goal.in_handlers-loop-handler-preserved
in_handlers-loop-handler-preserved t c = record {
  rest = handler_on (where_of c.args.w) c.args.all.now c.loop-handler.handler-index (c.loop-handler.further - 1) c.handler-item.result _ c.loop-handler-test.true (omega (arith, c.loop-handler.invariant.further)) c.handler-item.is (sym c.in_default.is ∙ c.in_ok-at.ensures) c.loop-handler.invariant.rest;
  further = omega (arith, c.loop-handler.invariant.further);
}

pub in_handlers-returns : goal.in_handlers-returns
in_handlers-returns t c = handler_over (where_of c.args.w) c.args.all.now c.loop-handler.handler-index _ c.loop-handler-test.false c.loop-handler.invariant.rest
