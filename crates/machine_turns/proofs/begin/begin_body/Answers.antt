use Rattle.std.proofs.Common.{◌≡◌, ◌∙◌, [], ap}
use Rattle.std.proofs.lemmas.Result.{IfOk-weaker}
use Rattle.machine_state.specs.py_world.World.{state}
use Rattle.machine_state.specs.py_world.Site.{trace_of}
use Rattle.machine_state.specs.py_world.Outcome.{call_end}
use Rattle.machine_state.specs.core_meaning.Statements.{core_block_body}
use Rattle.machine_state.specs.declared.machine.NextAction.{NextAction}
use Rattle.machine_state.specs.declared.machine.Machine.{Machine}
use Rattle.machine_state.specs.Places.{depth_of, scene_in, site_of}
use Rattle.machine_state.specs.Frames.{after_stack, handled_exception, layers_of, outer_of, machine_rest, site_now, state_of, todo, world_of}
use Rattle.machine_turns.proofs.Bodies.{body_begins}
use Rattle.machine_state.specs.Stacks.{StackView}
use Rattle.machine_turns.proofs.begin.begin_body.Goals as goal

pub returns-clause-next : goal.returns-clause-next
returns-clause-next c =
    let m = c.args.m.now in
    let m1 = c.open_body.new.m in
    let m' = c.begin_block.new.m in
    let fs' = c.push.new.self.own in
    let after = λ (x : StackView). state_of (record m1 { stack = x }) in
    let b = c.args.body.value in
    let temps = c.in_ok-caller.ensures.opened.0 in
    let opened = c.in_ok-caller.ensures.opened.1 in
    IfOk-weaker c.begin_block.result (λ (d : NextAction). todo d m' ≡ core_block_body (layers_of fs') b (site_of m1.here (outer_of fs') (handled_exception fs')).scene (after c.push.new.self) (after_stack fs' m1.here))
    (λ (d : NextAction). todo d m' ≡ core_block_body [] b (scene_in c.args.place (depth_of m.here) (trace_of (site_now m)) (handled_exception m.stack.own)) (state [] [] (world_of m)) (λ o. machine_rest m (call_end (state_of m) o)))
    (λ d h. h ∙ body_begins m c.args.place b c.in_ok-caller.caller fs' m1.stack.own m1.here (after c.push.new.self) c.in_ok-caller.ensures.caller (ap (λ (x : StackView). x.own) c.in_ok-push.ensures)
    (ap (λ (x : Machine). x.stack.own) opened) (ap (λ (x : Machine). x.here) opened)
    (ap after c.in_ok-push.ensures ∙ ap (λ (x : Machine). state x.locals m1.temps.items (world_of x)) opened ∙ ap (λ ts. state [] ts (world_of m)) temps))
    c.begin_block.ensures.next
