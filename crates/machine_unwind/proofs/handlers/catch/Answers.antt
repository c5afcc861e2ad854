use Rattle.std.proofs.Common.{◌≡◌, ◌∙◌, ◌+◌, ◌<◌, ◌≤◌, None, Some, arith, drop, false, length, rules}
use Rattle.std.proofs.lemmas.Result.{IfOk-weaker}
use Rattle.std.specs.List.{sum_by}
use Rattle.py_core.specs.Blocks.{handlers_in}
use Rattle.machine_state.specs.py_world.Exceptions.{handlers_on, no_exception, takes_exception}
use Rattle.machine_state.specs.py_world.Outcome.{raised_at}
use Rattle.machine_state.specs.core_meaning.Statements.{handlings}
use Rattle.machine_state.specs.declared.machine.NextAction.{NextAction}
use Rattle.machine_state.specs.Frames.{layers_of, on_class, machine_rest, site_now, state_of, todo}
use Rattle.machine_state.specs.Work.{catch_work, doing_work, handler_work, stack_work}
use Rattle.machine_unwind.proofs.Catching.{no_class, over_weighs, passed_over}
use Rattle.machine_unwind.proofs.handlers.catch.Goals as goal

pub returns-in-Some-false-clause-next : goal.returns-in-Some-false-clause-next
returns-in-Some-false-clause-next c =
    let m = c.args.m.now in
    let m' = c.next_handler.new.m in
    let hs = handlers_in c.args.guard.value in
    let at = c.args.at in
    let ls = layers_of m.stack.own in
    let t = c.args.thrown in
    let within : at < length hs = search rules in
    let taken : takes_exception m.heap t.exc c.args.class ≡ Some false = search rules in
    IfOk-weaker c.next_handler.result (λ (d : NextAction). todo d m' ≡ handlers_on (handlings ls (drop (at + 1) hs)) t.exc t.trace (site_now m) (state_of m) (machine_rest m))
    (λ (d : NextAction). todo d m' ≡ on_class (handlings ls (drop at hs)) t.exc t.trace (site_now m) c.args.class (state_of m) (machine_rest m))
    (λ d h. h ∙ passed_over ls t.exc t.trace (site_now m) c.args.class (state_of m) (machine_rest m) hs at within taken)
    c.next_handler.ensures.next

pub returns-in-Some-false-clause-work : goal.returns-in-Some-false-clause-work
returns-in-Some-false-clause-work c =
    let m = c.args.m.now in
    let m' = c.next_handler.new.m in
    let hs = handlers_in c.args.guard.value in
    let at = c.args.at in
    let within : at < length hs = search rules in
    let less : sum_by handler_work (drop (at + 1) hs) < catch_work (drop at hs) = over_weighs hs at within in
    IfOk-weaker c.next_handler.result (λ (d : NextAction). doing_work d + stack_work m' ≤ sum_by handler_work (drop (at + 1) hs) + stack_work m)
    (λ (d : NextAction). doing_work d + stack_work m' < catch_work (drop at hs) + stack_work m)
    (λ d h. omega (arith, h, less)) c.next_handler.ensures.work

pub returns-in-None-clause-next : goal.returns-in-None-clause-next
returns-in-None-clause-next c =
    let m = c.args.m.now in
    let m' = c.refuse.new.m in
    let hs = handlers_in c.args.guard.value in
    let at = c.args.at in
    let ls = layers_of m.stack.own in
    let t = c.args.thrown in
    let within : at < length hs = search rules in
    let taken : takes_exception m.heap t.exc c.args.class ≡ None = search rules in
    IfOk-weaker c.refuse.result (λ (d : NextAction). todo d m' ≡ machine_rest m (raised_at no_exception (site_now m) (state_of m)))
    (λ (d : NextAction). todo d m' ≡ on_class (handlings ls (drop at hs)) t.exc t.trace (site_now m) c.args.class (state_of m) (machine_rest m))
    (λ d h. h ∙ no_class ls t.exc t.trace (site_now m) c.args.class (state_of m) (machine_rest m) hs at within taken)
    c.refuse.ensures.next
