use Rattle.std.proofs.Common.{◌≡◌, ◌∙◌, ap, sym}
use Rattle.std.proofs.lemmas.Result.{IfOk-weaker}
use Rattle.machine_state.specs.declared.frame.Frame.{Frame}
use Rattle.machine_state.specs.declared.frame.Frame.TheVariants as frame
use Rattle.machine_state.specs.declared.machine.TurnEnd.{TurnEnd}
use Rattle.machine_state.specs.Places.{ends, outcome, site_of}
use Rattle.machine_state.specs.Frames.{after_stack, ending, handled_exception, here_in, layers_of, outer_of, resume, machine_rest, site_now, state_of, todo}
use Rattle.machine_state.specs.py_world.Outcome.{on_value}
use Rattle.machine_state.specs.Definings.{on_define}
use Rattle.machine_unwind.proofs.machine_turns_lemmas.Same.{same_run}
use Rattle.machine_stmt.proofs.run.take.Goals as goal

pub returns-in-Operand-clause-next : goal.returns-in-Operand-clause-next
returns-in-Operand-clause-next c =
    let m = c.args.m.now in
    let m' = c.end_operand.new.m in
    let turn = λ (f : Frame). ends m.left (resume f (layers_of m.stack.own) (site_of (here_in f m.here) (outer_of m.stack.own) (handled_exception m.stack.own)) (outcome c.args.end (state_of m)) (after_stack m.stack.own (here_in f m.here))) in
    IfOk-weaker c.end_operand.result (λ (t : TurnEnd). turn (frame.Operand c.in-Operand.frame) ≡ ending t m') (λ (t : TurnEnd). turn c.args.frame ≡ ending t m')
    (λ t h. ap turn c.in-Operand.is ∙ h) c.end_operand.ensures.next

pub returns-in-Call-clause-next : goal.returns-in-Call-clause-next
returns-in-Call-clause-next c =
    let m = c.args.m.now in
    let m' = c.end_call.new.m in
    let turn = λ (f : Frame). ends m.left (resume f (layers_of m.stack.own) (site_of (here_in f m.here) (outer_of m.stack.own) (handled_exception m.stack.own)) (outcome c.args.end (state_of m)) (after_stack m.stack.own (here_in f m.here))) in
    IfOk-weaker c.end_call.result (λ (t : TurnEnd). turn (frame.Call c.in-Call.frame) ≡ ending t m') (λ (t : TurnEnd). turn c.args.frame ≡ ending t m')
    (λ t h. ap turn c.in-Call.is ∙ h) c.end_call.ensures.next

pub returns-in-Item-clause-next : goal.returns-in-Item-clause-next
returns-in-Item-clause-next c =
    let m = c.args.m.now in
    let m' = c.end_item.new.m in
    let turn = λ (f : Frame). ends m.left (resume f (layers_of m.stack.own) (site_of (here_in f m.here) (outer_of m.stack.own) (handled_exception m.stack.own)) (outcome c.args.end (state_of m)) (after_stack m.stack.own (here_in f m.here))) in
    IfOk-weaker c.end_item.result (λ (t : TurnEnd). turn (frame.Item c.in-Item.frame) ≡ ending t m') (λ (t : TurnEnd). turn c.args.frame ≡ ending t m')
    (λ t h. ap turn c.in-Item.is ∙ h) c.end_item.ensures.next

pub returns-in_ok-take_define-in-Define-clause-next : goal.returns-in_ok-take_define-in-Define-clause-next
returns-in_ok-take_define-in-Define-clause-next c =
    let m = c.args.m.now in
    let m' = c.take_define.new.m in
    let f = c.in-Define.frame in
    let d = c.in_ok-take_define-in-Define.field-0 in
    let turn = λ (f : Frame). ends m.left (resume f (layers_of m.stack.own) (site_of (here_in f m.here) (outer_of m.stack.own) (handled_exception m.stack.own)) (outcome c.args.end (state_of m)) (after_stack m.stack.own (here_in f m.here))) in
    ap turn c.in-Define.is
    ∙ sym (same_run m.left m'.left (todo d m') (on_value (outcome c.args.end (state_of m)) (machine_rest m) (λ v s. on_define f (site_now m) v s (machine_rest m))) c.take_define.ensures.left c.in_ok-take_define-in-Define.ensures.next)
