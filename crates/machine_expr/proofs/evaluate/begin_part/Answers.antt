use Rattle.std.proofs.Common.{◌≡◌, ◌∙◌, ap, arith}
use Rattle.std.proofs.lemmas.Result.{IfOk-weaker}
use Rattle.py_core.specs.declared.expr.CoreExpr.{CoreExpr}
use Rattle.machine_state.specs.py_world.Arguments.{arguments_of}
use Rattle.machine_state.specs.py_world.Expressions.{call_part}
use Rattle.machine_state.specs.core_meaning.Expressions.{eval}
use Rattle.machine_state.specs.declared.machine.NextAction.{NextAction}
use Rattle.machine_state.specs.Places.{ends, parts_from}
use Rattle.machine_state.specs.Frames.{machine_rest, site_now, state_of, todo}
use Rattle.machine_state.specs.Work.{weight}
use Rattle.machine_expr.proofs.Noted.{begins_as}
use Rattle.machine_expr.proofs.Rows.{call_begins, call_weight}
use Rattle.machine_expr.proofs.evaluate.begin_part.Goals as goal

pub returns-in-Call-clause-next : goal.returns-in-Call-clause-next
returns-in-Call-clause-next c =
    let m = c.args.m.now in
    let e = c.deref.result.now in
    let m' = c.call.new.m in
    let part = call_part (eval c.in-Call.f.value) (arguments_of c.in-Call.names.value.items) (parts_from 0 c.in-Call.es) (site_now m) (state_of m) (machine_rest m) in
    let whole = λ (x : CoreExpr). eval x (site_now m) (state_of m) (machine_rest m) in
    IfOk-weaker c.call.result (λ (d : NextAction). ends m'.left (todo d m') ≡ ends m.left part) (λ (d : NextAction). ends m'.left (todo d m') ≡ ends m.left (whole c.args.e.now.value))
    (λ d h. begins_as m.left m'.left e.at e.kind (todo d m') part (whole e) h (call_begins e.kind e.at c.in-Call.f c.in-Call.es (site_now m) (state_of m) (machine_rest m) c.in-Call.names c.in-Call.is)
    ∙ ap (λ (x : CoreExpr). ends m.left (whole x)) c.deref.ensures)
    c.call.ensures.next

pub returns-in-Call-clause-work : goal.returns-in-Call-clause-work
returns-in-Call-clause-work c =
    let same : weight c.deref.result.now ≡ weight c.args.e.now.value = ap weight c.deref.ensures in
    IfOk-weaker c.call.result _ _ (λ d h. omega (arith, h, same, call_weight c.deref.result.now.kind c.in-Call.f c.in-Call.es c.in-Call.names c.in-Call.is)) c.call.ensures.work
