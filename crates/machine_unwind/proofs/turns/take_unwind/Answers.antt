use Rattle.std.proofs.Common.{◌≡◌, ◌∙◌, ap, sym}
use Rattle.std.proofs.lemmas.Result.{IfOk-weaker}
use Rattle.py_core.specs.Blocks.{last_in}
use Rattle.py_core.specs.declared.stmt.CoreGuard.{CoreGuard}
use Rattle.machine_state.specs.py_world.Exceptions.{finally_on}
use Rattle.machine_state.specs.core_meaning.Statements.{core_block_body}
use Rattle.machine_state.specs.declared.frame.UnwindFrame.{UnwindFrame}
use Rattle.machine_state.specs.declared.frame.UnwindFrame.TheVariants as unwind
use Rattle.machine_state.specs.declared.machine.NextAction.{NextAction}
use Rattle.machine_state.specs.Places.{outcome, site_of}
use Rattle.machine_state.specs.Frames.{after_stack, handled_exception, here_unwind, layers_of, on_unwind, outer_of, machine_rest, site_now, state_of, todo}
use Rattle.machine_unwind.proofs.turns.take_unwind.Goals as goal

pub returns-in-Guarded-clause-next : goal.returns-in-Guarded-clause-next
returns-in-Guarded-clause-next c =
    let m = c.args.m.now in
    let m' = c.take_guarded.new.m in
    let turn = λ (f : UnwindFrame). on_unwind f (layers_of m.stack.own) (site_of (here_unwind f m.here) (outer_of m.stack.own) (handled_exception m.stack.own)) (outcome c.args.end (state_of m)) (after_stack m.stack.own (here_unwind f m.here)) in
    IfOk-weaker c.take_guarded.result (λ (d : NextAction). todo d m' ≡ turn (unwind.Guarded c.in-Guarded.guard c.in-Guarded.line)) (λ (d : NextAction). todo d m' ≡ turn c.args.frame)
    (λ d h. h ∙ sym (ap turn c.in-Guarded.is)) c.take_guarded.ensures.next

pub returns-in-Last-clause-next : goal.returns-in-Last-clause-next
returns-in-Last-clause-next c =
    let m = c.args.m.now in
    let m' = c.begin_last.new.m in
    let turn = λ (f : UnwindFrame). on_unwind f (layers_of m.stack.own) (site_of (here_unwind f m.here) (outer_of m.stack.own) (handled_exception m.stack.own)) (outcome c.args.end (state_of m)) (after_stack m.stack.own (here_unwind f m.here)) in
    let last = λ (g : CoreGuard). finally_on (core_block_body (layers_of m.stack.own) (last_in g)) (site_now m) (outcome c.args.end (state_of m)) (machine_rest m) in
    IfOk-weaker c.begin_last.result (λ (d : NextAction). todo d m' ≡ last c.deref.result.now) (λ (d : NextAction). todo d m' ≡ turn c.args.frame)
    (λ d h. h ∙ ap last c.deref.ensures ∙ sym (ap turn c.in-Last.is)) c.begin_last.ensures.next

pub returns-clause-next : goal.returns-clause-next
returns-clause-next c =
    let m = c.args.m.now in
    let turn = λ (f : UnwindFrame). on_unwind f (layers_of m.stack.own) (site_of (here_unwind f m.here) (outer_of m.stack.own) (handled_exception m.stack.own)) (outcome c.args.end (state_of m)) (after_stack m.stack.own (here_unwind f m.here)) in
    sym (c.end_of.ensures (state_of m) (machine_rest m)) ∙ sym (ap turn c.in-Again.is)
