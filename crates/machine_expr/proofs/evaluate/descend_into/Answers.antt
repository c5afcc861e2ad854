use Rattle.std.proofs.Common.{◌≡◌, ◌∙◌, List, ◌∷◌, ap}
use Rattle.std.proofs.lemmas.Result.{IfOk-weaker}
use Rattle.py_core.specs.declared.expr.CoreExpr.{CoreExpr}
use Rattle.machine_state.specs.core_meaning.Expressions.{eval}
use Rattle.machine_state.specs.declared.frame.Frame.{Frame}
use Rattle.machine_state.specs.declared.machine.NextAction.{NextAction}
use Rattle.machine_state.specs.Places.{ends, site_of}
use Rattle.machine_state.specs.Frames.{after_stack, handled_exception, outer_of, state_of, todo}
use Rattle.machine_state.specs.Stacks.{StackView}
use Rattle.machine_expr.proofs.evaluate.descend_into.Goals as goal

pub returns-clause-next : goal.returns-clause-next
returns-clause-next c =
    let m = c.args.m.now in
    let m' = c.begin_parts.new.m in
    let part = λ (y : CoreExpr) (x : StackView). ends m.left (eval y (site_of m.here (outer_of x.own) (handled_exception x.own)) (state_of (record m { stack = x })) (after_stack x.own m.here)) in
    let pushed : StackView = record m.stack { own = c.args.frame ∷ m.stack.own } in
    IfOk-weaker c.begin_parts.result (λ (d : NextAction). ends m'.left (todo d m') ≡ part c.deref.result.now c.push.new.self)
    (λ (d : NextAction). ends m'.left (todo d m') ≡ part c.args.e.now.value pushed)
    (λ d h. h ∙ ap (part c.deref.result.now) c.in_ok-push.ensures ∙ ap (λ (y : CoreExpr). part y pushed) c.deref.ensures) c.begin_parts.ensures.next
