use Rattle.std.proofs.Common.{◌≡◌, ◌∙◌, ap}
use Rattle.std.proofs.lemmas.Result.{IfOk-weaker}
use Rattle.py_core.specs.Blocks.{last_in}
use Rattle.machine_state.specs.py_world.Exceptions.{finally_on}
use Rattle.machine_state.specs.core_meaning.Statements.{core_block_body}
use Rattle.machine_state.specs.declared.machine.NextAction.{NextAction}
use Rattle.machine_state.specs.Places.{outcome, site_of}
use Rattle.machine_state.specs.Frames.{after_stack, handled_exception, layers_of, outer_of, machine_rest, site_now, state_of, todo}
use Rattle.machine_unwind.proofs.Ends.{last_begins}
use Rattle.machine_state.specs.Stacks.{StackView}
use Rattle.machine_unwind.proofs.turns.begin_last.Goals as goal

pub returns-clause-next : goal.returns-clause-next
returns-clause-next c =
    let m = c.args.m.now in
    let m' = c.begin_block.new.m in
    let fs' = c.push.new.self.own in
    let last = c.in_ok-last.last.value in
    let after = λ (x : StackView). core_block_body (layers_of fs') last (site_of m.here (outer_of fs') (handled_exception fs')).scene (state_of (record m { stack = x })) (after_stack fs' m.here) in
    IfOk-weaker c.begin_block.result (λ (d : NextAction). todo d m' ≡ after c.push.new.self)
    (λ (d : NextAction). todo d m' ≡ finally_on (core_block_body (layers_of m.stack.own) (last_in c.args.guard.now)) (site_now m) (outcome c.args.end (state_of m)) (machine_rest m))
    (λ d h. h ∙ ap after c.in_ok-push.ensures ∙ last_begins c.args.end (last_in c.args.guard.now) last m.here m.stack.own fs' (state_of m) (ap (λ (x : StackView). x.own) c.in_ok-push.ensures) c.in_ok-last.ensures)
    c.begin_block.ensures.next
