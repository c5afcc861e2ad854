use Rattle.std.proofs.Common.{◌≡◌, ◌∙◌, List, ap, sym}
use Rattle.std.proofs.lemmas.Result.{IfOk-weaker}
use Rattle.std.specs.declared.alloc.Global.{Global}
use Rattle.py_core.specs.declared.expr.CoreExpr.{CoreExpr}
use Rattle.machine_state.specs.py_world.Outcome.{on_value}
use Rattle.machine_state.specs.py_world.Expressions.{binary_part, right_operand}
use Rattle.machine_state.specs.core_meaning.Expressions.{eval}
use Rattle.machine_state.specs.declared.frame.Frame.{Frame}
use Rattle.machine_state.specs.declared.machine.NextAction.{NextAction}
use Rattle.machine_state.specs.Places.{ends, site_of}
use Rattle.machine_state.specs.Frames.{after_stack, handled_exception, machine_rest, outer_of, site_now, state_of, todo}
use Rattle.machine_immediate.specs.AtOnce.{IsImmediate}
use Rattle.machine_immediate.proofs.AtOnces.{found}
use Rattle.machine_state.specs.Stacks.{StackView}
use Rattle.machine_expr.proofs.evaluate.begin_binary.Goals as goal

pub returns-in-Some-clause-next : goal.returns-in-Some-clause-next
returns-in-Some-clause-next c =
    let m = c.args.m.now in
    let m' = c.begin_right.new.m in
    let x = c.in-Some.there in
    let b = c.args.b.now.value in
    let whole = λ (y : CoreExpr). ends m.left (binary_part (eval y) c.args.op (eval b) (site_now m) (state_of m) (machine_rest m)) in
    let h : IsImmediate (eval c.deref.result.now) m.left x m = found m (eval c.deref.result.now) m.left c.in_ok-there.field-0 x c.in-Some.is c.in_ok-there.ensures in
    IfOk-weaker c.begin_right.result (λ (d : NextAction). ends m'.left (todo d m') ≡ ends x.left (right_operand x.value c.args.op (eval b) (site_now m) (state_of m) (machine_rest m)))
    (λ (d : NextAction). ends m'.left (todo d m') ≡ whole c.args.a.now.value)
    (λ d g. g ∙ sym (h.goes_on (λ o. on_value o (machine_rest m) (λ v s. right_operand v c.args.op (eval b) (site_now m) s (machine_rest m)))) ∙ ap whole c.deref.ensures)
    c.begin_right.ensures.next

pub returns-in_ok-push-in-None-clause-next : goal.returns-in_ok-push-in-None-clause-next
returns-in_ok-push-in-None-clause-next c =
    let m = c.args.m.now in
    let m' = c.begin_part.new.m in
    let part = λ (x : StackView). ends m.left (eval c.args.a.now.value (site_of m.here (outer_of x.own) (handled_exception x.own)) (state_of (record m { stack = x })) (after_stack x.own m.here)) in
    let whole = λ (y : CoreExpr). ends m.left (binary_part (eval c.args.a.now.value) c.args.op (eval y) (site_now m) (state_of m) (machine_rest m)) in
    IfOk-weaker c.begin_part.result (λ (d : NextAction). ends m'.left (todo d m') ≡ part c.push.new.self)
    (λ (d : NextAction). ends m'.left (todo d m') ≡ whole c.args.b.now.value)
    (λ d h. h ∙ ap part c.in_ok-push-in-None.ensures ∙ ap whole c.in_ok-right-in-None.ensures.cases) c.begin_part.ensures.next
