use Rattle.std.proofs.Common.{◌≡◌, ◌∙◌, ◌∷◌}
use Rattle.std.proofs.lemmas.Result.{IfOk-weaker}
use Rattle.py_world.specs.Loops.{for_statement}
use Rattle.machine_state.specs.core_meaning.Requests.{ForOf}
use Rattle.machine_state.specs.core_meaning.Expressions.{eval}
use Rattle.machine_state.specs.declared.frame.Frame.TheVariants.{Flow}
use Rattle.machine_state.specs.declared.frame.FlowFrame.TheVariants.{Iterable}
use Rattle.machine_state.specs.declared.machine.NextAction.{NextAction}
use Rattle.machine_state.specs.Places.{site_of}
use Rattle.machine_state.specs.Frames.{after_stack, handled_exception, outer_of, machine_rest, site_now, state_of, todo}
use Rattle.machine_flow.proofs.Elements.{for_begins}
use Rattle.machine_flow.proofs.turns.begin_for.Goals as goal

pub returns-clause-next : goal.returns-clause-next
returns-clause-next c =
    let m = c.args.m.now in
    let m' = c.descend.new.m in
    let e = c.args.e.now in
    let frames = Flow (Iterable c.in_ok-clone.field-0 c.in_ok-clone-2.field-0) ∷ m.stack.own in
    IfOk-weaker c.descend.result (λ (d : NextAction). todo d m' ≡ eval e.value (site_of m.here (outer_of frames) (handled_exception frames)) (state_of m) (after_stack frames m.here))
    (λ (d : NextAction). todo d m' ≡ for_statement (ForOf c.args.target.now.value c.args.body.now.value) (eval e.value) (site_now m) (state_of m) (machine_rest m))
    (λ d h. h ∙ for_begins m.here m.stack.own (state_of m) c.args.target.now c.in_ok-clone.field-0 e c.args.body.now c.in_ok-clone-2.field-0 c.in_ok-clone.ensures.cases c.in_ok-clone-2.ensures.cases)
    c.descend.ensures.next
