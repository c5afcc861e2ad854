use Rattle.std.proofs.Common.{◌≡◌, ◌∙◌, List, Option, ap, length}
use Rattle.std.specs.declared.alloc.Global.{Global}
use Rattle.std.specs.declared.vec.Vec.{Vec}
use Rattle.py_tree.specs.declared.expr.ArgName.{ArgName}
use Rattle.std.proofs.lemmas.Result.{IfOk-weaker}
use Rattle.machine_state.specs.py_world.Arguments.{arguments_of}
use Rattle.machine_state.specs.py_world.Expressions.{call_on, call_part}
use Rattle.py_values.specs.declared.value.Value.{Value}
use Rattle.machine_state.specs.core_meaning.Expressions.{eval}
use Rattle.machine_state.specs.declared.machine.NextAction.{NextAction}
use Rattle.machine_state.specs.Places.{ends, parts_from}
use Rattle.machine_state.specs.Frames.{machine_rest, site_now, state_of, todo}
use Rattle.machine_immediate.proofs.AtOnces.{called_now}
use Rattle.machine_turns.proofs.Same.{same_run}
use Rattle.machine_expr.proofs.evaluate.call.Goals as goal

pub returns-in_ok-clone-in-Some-clause-next : goal.returns-in_ok-clone-in-Some-clause-next
returns-in_ok-clone-in-Some-clause-next c =
    let m = c.args.m.now in
    let m' = c.arguments.new.m in
    let x = c.in-Some.there in
    let es = c.in_ok-clone-in-Some.field-0 in
    let none = c.new-none.result.items in
    let named = c.in_ok-named-in-Some.named in
    IfOk-weaker c.arguments.result
    (λ (d : NextAction). ends m'.left (todo d m') ≡ ends x.left (call_on x.value (arguments_of named.value.items) (parts_from (length none) es) none (site_now m) (state_of m) (machine_rest m)))
    (λ (d : NextAction). ends m'.left (todo d m') ≡ ends m.left (call_part (eval c.args.f.now.value) (arguments_of c.args.names.now.value.items) (parts_from 0 c.args.es.now) (site_now m) (state_of m) (machine_rest m)))
    (λ d h. h ∙ ap (λ (vs : List Value). ends x.left (call_on x.value (arguments_of named.value.items) (parts_from (length vs) es) vs (site_now m) (state_of m) (machine_rest m))) c.new-none.ensures.items
    ∙ called_now m (arguments_of named.value.items) c.args.f.now c.deref.result.now c.args.es.now es c.in_ok-there.field-0 x c.deref.ensures c.in_ok-clone-in-Some.ensures.cases c.in-Some.is c.in_ok-there.ensures
    ∙ ap (λ (ns : Vec (Option ArgName) Global). ends m.left (call_part (eval c.args.f.now.value) (arguments_of ns.items) (parts_from 0 c.args.es.now) (site_now m) (state_of m) (machine_rest m))) c.in_ok-named-in-Some.ensures.cases)
    c.arguments.ensures.next

pub returns-in-None-clause-next : goal.returns-in-None-clause-next
returns-in-None-clause-next c =
    let m = c.args.m.now in
    let m' = c.begin_call.new.m in
    let tree = call_part (eval c.args.f.now.value) (arguments_of c.args.names.now.value.items) (parts_from 0 c.args.es.now) (site_now m) (state_of m) (machine_rest m) in
    IfOk-weaker c.begin_call.result (λ (d : NextAction). todo d m' ≡ tree) (λ (d : NextAction). ends m'.left (todo d m') ≡ ends m.left tree)
    (λ d h. same_run m.left m'.left (todo d m') tree c.begin_call.ensures.left h) c.begin_call.ensures.next
