use Rattle.std.proofs.Common.{◌≡◌, ◌∙◌, [], ap}
use Rattle.std.proofs.lemmas.Result.{IfOk-weaker}
use Rattle.py_world.specs.Loops.{behind_target}
use Rattle.machine_state.specs.core_meaning.Requests.{ForOf}
use Rattle.machine_state.specs.core_meaning.Statements.{core_block_body}
use Rattle.machine_state.specs.declared.machine.NextAction.{NextAction}
use Rattle.machine_state.specs.Places.{site_of}
use Rattle.machine_state.specs.Frames.{after_stack, handled_exception, layers_of, outer_of, machine_rest, site_now, state_of, todo}
use Rattle.machine_flow.proofs.Elements.{body_begins}
use Rattle.machine_state.specs.Stacks.{StackView}
use Rattle.machine_flow.proofs.turns.begin_body.Goals as goal

pub returns-clause-next : goal.returns-clause-next
returns-clause-next c =
    let m = c.args.m.now in
    let m' = c.begin_block.new.m in
    let fs' = c.push.new.self.own in
    let t = c.args.target in
    let b = c.args.body in
    let after = λ (x : StackView). core_block_body (layers_of fs') b.value (site_of m.here (outer_of fs') (handled_exception fs')).scene (state_of (record m { stack = x })) (after_stack fs' m.here) in
    IfOk-weaker c.begin_block.result (λ (d : NextAction). todo d m' ≡ after c.push.new.self)
    (λ (d : NextAction). todo d m' ≡ behind_target (ForOf t.value b.value) (core_block_body [] b.value) c.args.next (site_now m) (state_of m) (machine_rest m))
    (λ d h. h ∙ ap after c.in_ok-push.ensures ∙ body_begins m.here m.stack.own (state_of m) t b c.in_ok-again.again c.args.next fs' c.in_ok-again.ensures.cases (ap (λ (x : StackView). x.own) c.in_ok-push.ensures))
    c.begin_block.ensures.next
