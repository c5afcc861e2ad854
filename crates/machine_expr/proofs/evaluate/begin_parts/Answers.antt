use Rattle.std.proofs.Common.{◌≡◌, arith, refl}
use Rattle.std.proofs.lemmas.Result.{IfOk-weaker}
use Rattle.machine_state.specs.py_world.Arguments.{arguments_of}
use Rattle.machine_state.specs.py_world.Expressions.{binary_part, call_part}
use Rattle.machine_state.specs.core_meaning.Expressions.{eval}
use Rattle.machine_state.specs.declared.machine.NextAction.{NextAction}
use Rattle.machine_state.specs.Places.{ends, parts_from}
use Rattle.machine_state.specs.Frames.{machine_rest, site_now, state_of, todo}
use Rattle.machine_expr.specs.Noting.{with_note}
use Rattle.machine_expr.proofs.Noted.{begins_as, evaluates}
use Rattle.machine_expr.proofs.Rows.{binary_begins, binary_weight, call_begins, call_weight}
use Rattle.machine_expr.proofs.evaluate.begin_parts.Goals as goal

pub returns-in-Call-clause-next : goal.returns-in-Call-clause-next
returns-in-Call-clause-next c =
    let m = c.args.m.now in
    let e = c.args.e.now in
    let m' = c.call.new.m in
    let part = call_part (eval c.in-Call.f.value) (arguments_of c.in-Call.names.value.items) (parts_from 0 c.in-Call.es) (site_now m) (state_of m) (machine_rest m) in
    let whole = eval e (site_now m) (state_of m) (machine_rest m) in
    IfOk-weaker c.call.result (λ (d : NextAction). ends m'.left (todo d m') ≡ ends m.left part) (λ (d : NextAction). ends m'.left (todo d m') ≡ ends m.left whole)
    (λ d h. begins_as m.left m'.left e.at e.kind (todo d m') part whole h (call_begins e.kind e.at c.in-Call.f c.in-Call.es (site_now m) (state_of m) (machine_rest m) c.in-Call.names c.in-Call.is))
    c.call.ensures.next

pub returns-in-Call-clause-work : goal.returns-in-Call-clause-work
returns-in-Call-clause-work c = IfOk-weaker c.call.result _ _ (λ d h. omega (arith, h, call_weight c.args.e.now.kind c.in-Call.f c.in-Call.es c.in-Call.names c.in-Call.is)) c.call.ensures.work

pub returns-in-Binary-clause-next : goal.returns-in-Binary-clause-next
returns-in-Binary-clause-next c =
    let m = c.args.m.now in
    let e = c.args.e.now in
    let m' = c.begin_binary.new.m in
    let part = binary_part (eval c.in-Binary.a.value) c.in-Binary.op (eval c.in-Binary.b.value) (site_now m) (state_of m) (machine_rest m) in
    let whole = eval e (site_now m) (state_of m) (machine_rest m) in
    IfOk-weaker c.begin_binary.result (λ (d : NextAction). ends m'.left (todo d m') ≡ ends m.left part) (λ (d : NextAction). ends m'.left (todo d m') ≡ ends m.left whole)
    (λ d h. begins_as m.left m'.left e.at e.kind (todo d m') part whole h (binary_begins e.kind e.at (site_now m) (state_of m) (machine_rest m) c.in-Binary.a c.in-Binary.b c.in-Binary.b c.in-Binary.op c.in-Binary.is refl))
    c.begin_binary.ensures.next

pub returns-in-Binary-clause-work : goal.returns-in-Binary-clause-work
returns-in-Binary-clause-work c = IfOk-weaker c.begin_binary.result _ _ (λ d h. omega (arith, h, binary_weight c.args.e.now.kind c.in-Binary.a c.in-Binary.b c.in-Binary.op c.in-Binary.is)) c.begin_binary.ensures.work

pub returns-clause-next : goal.returns-clause-next
returns-clause-next c =
    let m = c.args.m.now in
    let e = c.args.e.now in
    let m' = c.begin.new.m in
    let whole = eval e (site_now m) (state_of m) (machine_rest m) in
    IfOk-weaker c.begin.result (λ (d : NextAction). with_note e.at e.kind (todo d m') ≡ whole) (λ (d : NextAction). ends m'.left (todo d m') ≡ ends m.left whole)
    (λ d h. evaluates m.left m'.left e.at e.kind (todo d m') whole h c.begin.ensures.left) c.begin.ensures.next
