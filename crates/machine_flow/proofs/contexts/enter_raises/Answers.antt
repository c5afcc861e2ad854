use Rattle.std.proofs.Common.{◌≡◌, ◌∙◌, [], Some, ap}
use Rattle.std.proofs.lemmas.Result.{IfOk-weaker}
use Rattle.py_world.specs.Contexts.{context_entered}
use Rattle.machine_state.specs.core_meaning.Statements.{core_block_body}
use Rattle.machine_state.specs.declared.machine.NextAction.{NextAction}
use Rattle.machine_state.specs.Places.{site_of}
use Rattle.machine_state.specs.Frames.{after_stack, handled_exception, layers_of, outer_of, machine_rest, site_now, state_of, todo}
use Rattle.machine_flow.proofs.Entering.{context_begins}
use Rattle.machine_state.specs.Stacks.{StackView}
use Rattle.machine_flow.proofs.contexts.enter_raises.Goals as goal

pub returns-clause-next : goal.returns-clause-next
returns-clause-next c =
    let m = c.args.m.now in
    let m1 = c.make_info.new.m in
    let m' = c.begin_block.new.m in
    let fs = c.push.new.self.own in
    let after = λ (x : StackView). state_of (record m1 { stack = x }) in
    IfOk-weaker c.begin_block.result
    (λ (d : NextAction). todo d m' ≡ core_block_body (layers_of fs) c.args.body.value (site_of m1.here (outer_of fs) (handled_exception fs)).scene (after c.push.new.self) (after_stack fs m1.here))
    (λ (d : NextAction). todo d m' ≡ context_entered (Some c.args.raises) c.args.name.now (core_block_body [] c.args.body.value) (site_now m) (state_of m) (machine_rest m))
    (λ d h. h
    ∙ context_begins m.here m1.here m.stack.own m1.stack.own fs (state_of m) (after c.push.new.self) c.args.name.now c.args.body.value c.args.raises c.in_ok-info.info
    c.in_ok-info.ensures.here (ap (λ (x : StackView). x.own) c.in_ok-info.ensures.stack) (ap after c.in_ok-push.ensures ∙ c.in_ok-info.ensures.state) c.in_ok-info.ensures.place (ap (λ (x : StackView). x.own) c.in_ok-push.ensures))
    c.begin_block.ensures.next
