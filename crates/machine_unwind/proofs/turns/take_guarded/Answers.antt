use Rattle.std.proofs.Common.{◌≡◌, ◌∙◌, ap}
use Rattle.std.proofs.lemmas.Result.{IfOk-weaker}
use Rattle.py_core.specs.Blocks.{handlers_in, other_in}
use Rattle.machine_state.specs.py_world.Exceptions.{guarded_by}
use Rattle.machine_state.specs.core_meaning.Statements.{core_block_body, guard, handlings}
use Rattle.machine_state.specs.declared.machine.NextAction.{NextAction}
use Rattle.machine_state.specs.Places.{outcome, site_of}
use Rattle.machine_state.specs.Frames.{after_stack, handled_exception, layers_of, outer_of, machine_rest, site_now, state_of, todo}
use Rattle.machine_unwind.proofs.Ends.{guard_goes}
use Rattle.machine_state.specs.Stacks.{StackView}
use Rattle.machine_unwind.proofs.turns.take_guarded.Goals as goal

pub returns-clause-next : goal.returns-clause-next
returns-clause-next c =
    let m = c.args.m.now in
    let m' = c.guarded.new.m in
    let fs' = c.push.new.self.own in
    let g = c.args.guard in
    let o = outcome c.args.end (state_of m) in
    let after = λ (x : StackView). guarded_by (handlings (layers_of fs') (handlers_in g.value)) (core_block_body (layers_of fs') (other_in g.value)) (site_of m.here (outer_of fs') (handled_exception fs')) (outcome c.args.end (state_of (record m { stack = x }))) (after_stack fs' m.here) in
    IfOk-weaker c.guarded.result
    (λ (d : NextAction). todo d m' ≡ after c.push.new.self)
    (λ (d : NextAction). todo d m' ≡ guard (layers_of m.stack.own) g.value (site_now m) o (machine_rest m))
    (λ d h. h ∙ ap after c.in_ok-push.ensures ∙ guard_goes m.here m.stack.own fs' o g c.in_ok-again.again c.in_ok-again.ensures.cases (ap (λ (x : StackView). x.own) c.in_ok-push.ensures))
    c.guarded.ensures.next
