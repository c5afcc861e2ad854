use Rattle.std.proofs.Common.{◌≡◌, ◌∙◌, ap, arith}
use Rattle.std.proofs.lemmas.Result.{IfOk-weaker}
use Rattle.machine_state.specs.py_world.Arguments.{arguments_of}
use Rattle.machine_state.specs.py_world.Expressions.{call_part, and_part, or_part, compare_part}
use Rattle.machine_state.specs.core_meaning.Expressions.{eval}
use Rattle.machine_state.specs.declared.machine.NextAction.{NextAction}
use Rattle.machine_state.specs.Places.{parts_from}
use Rattle.machine_state.specs.Frames.{machine_rest, site_now, state_of, todo}
use Rattle.machine_expr.specs.Noting.{with_note}
use Rattle.machine_expr.proofs.Rows.{call_begins, and_begins, or_begins, compare_begins, call_weight, and_weight, or_weight, compare_weight}
use Rattle.machine_expr.proofs.evaluate.begin_chain.Goals as goal

pub returns-in-Call-clause-next : goal.returns-in-Call-clause-next
returns-in-Call-clause-next c =
    let m = c.args.m.now in
    let e = c.args.e.now in
    let m' = c.begin_call.new.m in
    let p = site_now m in
    let s = state_of m in
    let k = machine_rest m in
    IfOk-weaker c.begin_call.result (λ (d : NextAction). todo d m' ≡ call_part (eval c.in-Call.f.value) (arguments_of c.in-Call.names.value.items) (parts_from 0 c.in-Call.es) p s k) (λ (d : NextAction). with_note e.at e.kind (todo d m') ≡ eval e p s k)
    (λ d h. ap (with_note e.at e.kind) h ∙ call_begins e.kind e.at c.in-Call.f c.in-Call.es p s k c.in-Call.names c.in-Call.is)
    c.begin_call.ensures.next

pub returns-in-Call-clause-work : goal.returns-in-Call-clause-work
returns-in-Call-clause-work c =
    IfOk-weaker c.begin_call.result _ _ (λ d h. omega (arith, h, call_weight c.args.e.now.kind c.in-Call.f c.in-Call.es c.in-Call.names c.in-Call.is)) c.begin_call.ensures.work

pub returns-in-And-clause-next : goal.returns-in-And-clause-next
returns-in-And-clause-next c =
    let m = c.args.m.now in
    let e = c.args.e.now in
    let m' = c.begin_and.new.m in
    let p = site_now m in
    let s = state_of m in
    let k = machine_rest m in
    IfOk-weaker c.begin_and.result (λ (d : NextAction). todo d m' ≡ and_part (eval c.in-And.a.value) (parts_from 0 c.in-And.es) p s k) (λ (d : NextAction). with_note e.at e.kind (todo d m') ≡ eval e p s k)
    (λ d h. ap (with_note e.at e.kind) h ∙ and_begins e.kind e.at c.in-And.a c.in-And.es p s k c.in-And.is)
    c.begin_and.ensures.next

pub returns-in-And-clause-work : goal.returns-in-And-clause-work
returns-in-And-clause-work c =
    IfOk-weaker c.begin_and.result _ _ (λ d h. omega (arith, h, and_weight c.args.e.now.kind c.in-And.a c.in-And.es c.in-And.is)) c.begin_and.ensures.work

pub returns-in-Or-clause-next : goal.returns-in-Or-clause-next
returns-in-Or-clause-next c =
    let m = c.args.m.now in
    let e = c.args.e.now in
    let m' = c.begin_or.new.m in
    let p = site_now m in
    let s = state_of m in
    let k = machine_rest m in
    IfOk-weaker c.begin_or.result (λ (d : NextAction). todo d m' ≡ or_part (eval c.in-Or.a.value) (parts_from 0 c.in-Or.es) p s k) (λ (d : NextAction). with_note e.at e.kind (todo d m') ≡ eval e p s k)
    (λ d h. ap (with_note e.at e.kind) h ∙ or_begins e.kind e.at c.in-Or.a c.in-Or.es p s k c.in-Or.is)
    c.begin_or.ensures.next

pub returns-in-Or-clause-work : goal.returns-in-Or-clause-work
returns-in-Or-clause-work c =
    IfOk-weaker c.begin_or.result _ _ (λ d h. omega (arith, h, or_weight c.args.e.now.kind c.in-Or.a c.in-Or.es c.in-Or.is)) c.begin_or.ensures.work

pub returns-in-Compare-clause-next : goal.returns-in-Compare-clause-next
returns-in-Compare-clause-next c =
    let m = c.args.m.now in
    let e = c.args.e.now in
    let m' = c.begin_compare.new.m in
    let p = site_now m in
    let s = state_of m in
    let k = machine_rest m in
    IfOk-weaker c.begin_compare.result (λ (d : NextAction). todo d m' ≡ compare_part (eval c.in-Compare.a.value) c.in-Compare.ops.value.items (parts_from 0 c.in-Compare.es) p s k) (λ (d : NextAction). with_note e.at e.kind (todo d m') ≡ eval e p s k)
    (λ d h. ap (with_note e.at e.kind) h ∙ compare_begins e.kind e.at c.in-Compare.a c.in-Compare.es p s k c.in-Compare.ops c.in-Compare.is)
    c.begin_compare.ensures.next

pub returns-in-Compare-clause-work : goal.returns-in-Compare-clause-work
returns-in-Compare-clause-work c =
    IfOk-weaker c.begin_compare.result _ _ (λ d h. omega (arith, h, compare_weight c.args.e.now.kind c.in-Compare.a c.in-Compare.es c.in-Compare.ops c.in-Compare.is)) c.begin_compare.ensures.work
