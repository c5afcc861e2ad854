use Rattle.std.proofs.Common.{◌≡◌, ◌∙◌, ap}
use Rattle.std.proofs.lemmas.Result.{IfOk-weaker}
use Rattle.machine_state.specs.py_world.Expressions.{unary_part, binary_part, choice_part, kept_part}
use Rattle.machine_state.specs.core_meaning.Expressions.{eval}
use Rattle.machine_state.specs.declared.machine.NextAction.{NextAction}
use Rattle.machine_state.specs.Frames.{machine_rest, site_now, state_of, todo}
use Rattle.machine_expr.specs.Noting.{with_note}
use Rattle.machine_expr.proofs.Rows.{unary_begins, binary_begins, choice_begins, keep_begins}
use Rattle.machine_expr.proofs.evaluate.begin_operator.Goals as goal

pub returns-in-Unary-clause-next : goal.returns-in-Unary-clause-next
returns-in-Unary-clause-next c =
    let m = c.args.m.now in
    let e = c.args.e.now in
    let m' = c.descend.new.m in
    let p = site_now m in
    let s = state_of m in
    let k = machine_rest m in
    IfOk-weaker c.descend.result (λ (d : NextAction). todo d m' ≡ unary_part c.in-Unary.op (eval c.in-Unary.a.value) p s k) (λ (d : NextAction). with_note e.at e.kind (todo d m') ≡ eval e p s k)
    (λ d h. ap (with_note e.at e.kind) h ∙ unary_begins e.kind e.at p s k c.in-Unary.op c.in-Unary.a c.in-Unary.is)
    c.descend.ensures.next

pub returns-in_ok-clone-in-Binary-clause-next : goal.returns-in_ok-clone-in-Binary-clause-next
returns-in_ok-clone-in-Binary-clause-next c =
    let m = c.args.m.now in
    let e = c.args.e.now in
    let m' = c.descend-in-Binary.new.m in
    let p = site_now m in
    let s = state_of m in
    let k = machine_rest m in
    IfOk-weaker c.descend-in-Binary.result (λ (d : NextAction). todo d m' ≡ binary_part (eval c.in-Binary.a.value) c.in-Binary.op (eval c.in_ok-clone-in-Binary.field-0.value) p s k) (λ (d : NextAction). with_note e.at e.kind (todo d m') ≡ eval e p s k)
    (λ d h. ap (with_note e.at e.kind) h ∙ binary_begins e.kind e.at p s k c.in-Binary.a c.in-Binary.b c.in_ok-clone-in-Binary.field-0 c.in-Binary.op c.in-Binary.is c.in_ok-clone-in-Binary.ensures.cases)
    c.descend-in-Binary.ensures.next

pub returns-in_ok-clone-in-IfElse-2-clause-next : goal.returns-in_ok-clone-in-IfElse-2-clause-next
returns-in_ok-clone-in-IfElse-2-clause-next c =
    let m = c.args.m.now in
    let e = c.args.e.now in
    let m' = c.descend-in-IfElse.new.m in
    let p = site_now m in
    let s = state_of m in
    let k = machine_rest m in
    IfOk-weaker c.descend-in-IfElse.result (λ (d : NextAction). todo d m' ≡ choice_part (eval c.in_ok-clone-in-IfElse.field-0.value) (eval c.in-IfElse.condition.value) (eval c.in_ok-clone-in-IfElse-2.field-0.value) p s k) (λ (d : NextAction). with_note e.at e.kind (todo d m') ≡ eval e p s k)
    (λ d h. ap (with_note e.at e.kind) h ∙ choice_begins e.kind e.at p s k c.in-IfElse.a c.in-IfElse.condition c.in-IfElse.b c.in_ok-clone-in-IfElse.field-0 c.in_ok-clone-in-IfElse-2.field-0 c.in-IfElse.is c.in_ok-clone-in-IfElse.ensures.cases c.in_ok-clone-in-IfElse-2.ensures.cases)
    c.descend-in-IfElse.ensures.next

pub returns-in-SetTemp-clause-next : goal.returns-in-SetTemp-clause-next
returns-in-SetTemp-clause-next c =
    let m = c.args.m.now in
    let e = c.args.e.now in
    let m' = c.descend-in-SetTemp.new.m in
    let p = site_now m in
    let s = state_of m in
    let k = machine_rest m in
    IfOk-weaker c.descend-in-SetTemp.result (λ (d : NextAction). todo d m' ≡ kept_part c.in-SetTemp.t (eval c.in-SetTemp.a.value) p s k) (λ (d : NextAction). with_note e.at e.kind (todo d m') ≡ eval e p s k)
    (λ d h. ap (with_note e.at e.kind) h ∙ keep_begins e.kind e.at p s k c.in-SetTemp.t c.in-SetTemp.a c.in-SetTemp.is)
    c.descend-in-SetTemp.ensures.next
