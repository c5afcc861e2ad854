use Rattle.std.proofs.Common.{◌≡◌, ◌∙◌, [], ◌∷◌}
use Rattle.std.proofs.lemmas.Result.{IfOk-weaker}
use Rattle.py_world.specs.Contexts.{with_statement}
use Rattle.machine_state.specs.core_meaning.Expressions.{eval}
use Rattle.machine_state.specs.core_meaning.Statements.{core_block_body}
use Rattle.machine_state.specs.declared.frame.Frame.TheVariants.{Flow}
use Rattle.machine_state.specs.declared.frame.FlowFrame.TheVariants.{Context}
use Rattle.machine_state.specs.declared.machine.NextAction.{NextAction}
use Rattle.machine_state.specs.Places.{site_of}
use Rattle.machine_state.specs.Frames.{after_stack, handled_exception, outer_of, machine_rest, site_now, state_of, todo}
use Rattle.machine_flow.proofs.Entering.{with_begins}
use Rattle.machine_flow.proofs.contexts.begin_with.Goals as goal

pub returns-clause-next : goal.returns-clause-next
returns-clause-next c =
    let m = c.args.m.now in
    let m' = c.descend.new.m in
    let e = c.args.e.now in
    let frames = Flow (Context c.in_ok-kept.kept c.in_ok-block.block) ∷ m.stack.own in
    IfOk-weaker c.descend.result (λ (d : NextAction). todo d m' ≡ eval e.value (site_of m.here (outer_of frames) (handled_exception frames)) (state_of m) (after_stack frames m.here))
    (λ (d : NextAction). todo d m' ≡ with_statement (eval e.value) c.args.name.now (core_block_body [] c.args.body.now.value) (site_now m) (state_of m) (machine_rest m))
    (λ d h. h ∙ with_begins m.here m.stack.own (state_of m) e c.args.name.now c.in_ok-kept.kept c.args.body.now c.in_ok-block.block c.in_ok-kept.ensures c.in_ok-block.ensures.cases)
    c.descend.ensures.next
