use Rattle.std.proofs.Common.{◌≡◌, ◌∙◌, Some, None, refl, ap, sym, subst}
use Rattle.std.proofs.lemmas.Result.{IfOk-weaker}
use Rattle.py_values.specs.declared.value.Value.TheVariants as val
use Rattle.machine_state.specs.py_world.Calls.{init_of, invoke, new_instance}
use Rattle.machine_state.specs.core_meaning.Statements.{entry}
use Rattle.machine_state.specs.Places.{CoreRest, arguments_in, ends}
use Rattle.machine_state.specs.Frames.{around_by, state_of}
use Rattle.machine_call.specs.declared.class.CallProgress.{CallProgress}
use Rattle.machine_call.specs.Called.{Calls, call_rest, with_init}
use Rattle.machine_call.proofs.Classes.{bare_made, init_made, runs_as}
use Rattle.machine_call.proofs.class.call_at.Goals as goal

pub returns-in-Some-2-clause-next : goal.returns-in-Some-2-clause-next
returns-in-Some-2-clause-next c =
    let m = c.args.m.now in
    let args = arguments_in c.args.args.now in
    let d = c.in-Some.class.now in
    let exc = c.is_exc_class-is_exc.result in
    let found : Some c.in-Some-2.init ≡ init_of m.heap c.args.id = sym c.in-Some-2.is ∙ c.in_ok-init-in-Some.ensures in
    let same : invoke entry (val.Ref c.args.id) args (around_by c.args.origin m) (state_of m) (call_rest m)
    ≡ with_init c.in-Some-2.init (new_instance exc c.args.id d.form args.plain m.heap) args (around_by c.args.origin m) (state_of m) (call_rest m) =
    init_made c.args.id d exc args args.plain (around_by c.args.origin m) (state_of m) (call_rest m) c.in-Some-2.init c.in-Some.ensures c.is_exc_class-is_exc.ensures refl found in
    IfOk-weaker c.call_with_init.result
    (λ (k : CallProgress). Calls k c.args.origin args c.call_with_init.new.m m.left (with_init c.in-Some-2.init (new_instance exc c.args.id d.form args.plain m.heap) args (around_by c.args.origin m) (state_of m) (call_rest m)))
    (λ (k : CallProgress). Calls k c.args.origin args c.call_with_init.new.m m.left (invoke entry (val.Ref c.args.id) args (around_by c.args.origin m) (state_of m) (call_rest m)))
    (λ k h. subst (λ (u : CoreRest). Calls k c.args.origin args c.call_with_init.new.m m.left u) (sym same) h) c.call_with_init.ensures.next

pub returns-in_ok-doing-in-None-2-clause-next : goal.returns-in_ok-doing-in-None-2-clause-next
returns-in_ok-doing-in-None-2-clause-next c =
    let m = c.args.m.now in
    let args = arguments_in c.args.args.now in
    let d = c.in-Some.class.now in
    let exc = c.is_exc_class-is_exc.result in
    let found : None ≡ init_of m.heap c.args.id = sym c.in-None-2.is ∙ c.in_ok-init-in-Some.ensures in
    ap (ends m.left)
    (bare_made c.args.id d exc args c.deref.result.now (around_by c.args.origin m) (state_of m) (call_rest m) c.in_ok-misfit-in-None-2.misfit c.in-Some.ensures c.is_exc_class-is_exc.ensures c.deref.ensures.value found
    c.in_ok-misfit-in-None-2.ensures)
    ∙ runs_as m.left c.call_bare.new.m.left _ _ c.in_ok-doing-in-None-2.ensures.left c.in_ok-doing-in-None-2.ensures.next
