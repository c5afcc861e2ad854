use Rattle.std.proofs.Common.{◌≡◌, ◌∙◌, List, ap, sym, Some, None}
use Rattle.machine_state.specs.py_core.declared.stmt.CoreFn.{CoreFn}
use Rattle.machine_state.specs.py_world.World.{FunctionCode}
use Rattle.std.specs.Prelude.{slice_get}
use Rattle.py_kinds.specs.Kinds.{kind_name}
use Rattle.machine_state.specs.py_world.Calls.{not_callable}
use Rattle.machine_state.specs.py_world.Outcome.{call_end}
use Rattle.machine_state.specs.Places.{CoreOutcome}
use Rattle.machine_state.specs.Frames.{around_by, machine_rest, state_of, todo}
use Rattle.machine_call.proofs.Calling.{code_there, code_missing}
use Rattle.machine_call.proofs.enter.invoke_code.Goals as goal

pub returns-in_ok-call_code-in-Some-clause-next : goal.returns-in_ok-call_code-in-Some-clause-next
returns-in_ok-call_code-in-Some-clause-next c =
    let m = c.args.m.now in
    let there : slice_get m.codes.items c.args.at ≡ Some c.in-Some.code = ap (λ (xs : List (FunctionCode CoreFn)). slice_get xs c.args.at) (sym c.deref.ensures.value) ∙ sym c.in_ok-found.ensures ∙ c.in-Some.is in
    code_there m.left c.call_code.new.m.left (slice_get m.codes.items c.args.at) (not_callable (kind_name m.heap c.args.callee)) c.args.names (around_by c.args.origin m) (state_of m)
    (λ (o : CoreOutcome). machine_rest m (call_end (state_of m) o)) (todo c.in_ok-call_code-in-Some.field-0 c.call_code.new.m)
    c.in-Some.code there c.call_code.ensures.left c.in_ok-call_code-in-Some.ensures.next

pub returns-in_ok-not_callable-in-None-clause-next : goal.returns-in_ok-not_callable-in-None-clause-next
returns-in_ok-not_callable-in-None-clause-next c =
    let m = c.args.m.now in
    let none : slice_get m.codes.items c.args.at ≡ None = ap (λ (xs : List (FunctionCode CoreFn)). slice_get xs c.args.at) (sym c.deref.ensures.value) ∙ sym c.in_ok-found.ensures ∙ c.in-None.is in
    code_missing m.left c.not_callable.new.m.left (slice_get m.codes.items c.args.at) (not_callable (kind_name m.heap c.args.callee)) c.args.names (around_by c.args.origin m) (state_of m)
    (λ (o : CoreOutcome). machine_rest m (call_end (state_of m) o)) (todo c.in_ok-not_callable-in-None.field-0 c.not_callable.new.m)
    none c.not_callable.ensures.left c.in_ok-not_callable-in-None.ensures.next
