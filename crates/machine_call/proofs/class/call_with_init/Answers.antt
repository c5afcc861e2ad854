use Rattle.std.proofs.Common.{◌≡◌, ◌∙◌, List, refl, ap, sym, subst}
use Rattle.std.proofs.lemmas.Result.{IfOk-weaker}
use Rattle.py_kinds.specs.Kinds.{kind_name}
use Rattle.py_values.specs.declared.object.Obj.{Obj}
use Rattle.py_values.specs.declared.value.Value.{Value}
use Rattle.machine_state.specs.py_world.World.{with_heap}
use Rattle.machine_state.specs.py_world.Calls.{init_called, new_instance, not_callable}
use Rattle.machine_state.specs.core_meaning.Statements.{entry}
use Rattle.machine_state.specs.declared.machine.Machine.{Machine}
use Rattle.machine_state.specs.Places.{CoreRest, arguments_in}
use Rattle.machine_state.specs.Frames.{around_by, state_of}
use Rattle.machine_call.specs.declared.class.CallProgress.{CallProgress}
use Rattle.machine_call.specs.Called.{Calls, call_rest, with_init}
use Rattle.machine_call.proofs.Classes.{init_begins, new_ready}
use Rattle.machine_state.specs.Stacks.{StackView}
use Rattle.machine_call.proofs.class.call_with_init.Goals as goal

pub call_init-requires : goal.call_init-requires
call_init-requires c =
    let m = c.args.m.now in
    let m1 : Machine = record m { heap = c.new_instance.new.heap; stack = c.push.new.self } in
    new_ready c.args.origin m m1 c.in_ok-v.v refl c.in_ok-push.ensures c.requires

pub returns-clause-next : goal.returns-clause-next
returns-clause-next c =
    let m = c.args.m.now in
    let args = arguments_in c.args.args.now in
    let x = new_instance c.args.is_exc c.args.id c.args.form c.args.args.now.plain.items m.heap in
    let m1 : Machine = record m { heap = c.new_instance.new.heap; stack = c.push.new.self } in
    let made : (c.in_ok-v.v, c.new_instance.new.heap) ≡ x =
    c.in_ok-v.ensures ∙ ap (λ (vs : List Value). new_instance c.args.is_exc c.args.id c.args.form vs m.heap) c.deref.ensures.value in
    let given : c.in_ok-v.v ≡ x.0 = ap (λ (t : Value × List Obj). t.0) made in
    let grown : c.new_instance.new.heap ≡ x.1 = ap (λ (t : Value × List Obj). t.1) made in
    let same : with_init c.args.init x args (around_by c.args.origin m) (state_of m) (call_rest m)
    ≡ init_called entry c.args.init c.in_ok-v.v (not_callable (kind_name m1.heap c.args.init)) args (around_by c.args.origin m1) (state_of m1) (call_rest m1) =
    init_begins c.args.origin m m1 c.in_ok-v.v x c.args.init args given grown refl c.in_ok-push.ensures
    (ap (λ (y : StackView). state_of (record m { heap = c.new_instance.new.heap; stack = y })) c.in_ok-push.ensures ∙ ap (λ (heap : List Obj). with_heap heap (state_of m)) grown) in
    IfOk-weaker c.call_init.result
    (λ (k : CallProgress). Calls k c.args.origin args c.call_init.new.m m.left (init_called entry c.args.init c.in_ok-v.v (not_callable (kind_name m1.heap c.args.init)) args (around_by c.args.origin m1) (state_of m1) (call_rest m1)))
    (λ (k : CallProgress). Calls k c.args.origin args c.call_init.new.m m.left (with_init c.args.init x args (around_by c.args.origin m) (state_of m) (call_rest m)))
    (λ k h. subst (λ (u : CoreRest). Calls k c.args.origin args c.call_init.new.m m.left u) (sym same) h) c.call_init.ensures.next
