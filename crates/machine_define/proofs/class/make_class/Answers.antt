use Rattle.std.proofs.Common.{◌≡◌, ◌∙◌, [], rules, ap}
use Rattle.std.proofs.lemmas.Result.{IfOk-weaker}
use Rattle.machine_state.specs.py_world.Outcome.{call_end}
use Rattle.machine_state.specs.py_world.Site.{trace_of}
use Rattle.machine_state.specs.py_world.World.{state, world_with_heap}
use Rattle.machine_state.specs.core_meaning.Statements.{core_block_body}
use Rattle.machine_state.specs.declared.machine.NextAction.{NextAction}
use Rattle.machine_state.specs.Definings.{core_class_made}
use Rattle.machine_state.specs.Places.{depth_of, scene_in, site_of}
use Rattle.machine_state.specs.Frames.{after_stack, handled_exception, outer_of, machine_rest, site_now, state_of, todo, world_of}
use Rattle.machine_define.proofs.Classes.{class_runs}
use Rattle.machine_state.specs.Stacks.{StackView}
use Rattle.machine_define.proofs.class.make_class.Goals as goal

pub returns-clause-next : goal.returns-clause-next
returns-clause-next c =
    let m = c.args.m.now in
    let m' = c.begin_body.new.m in
    let fs = c.push.new.self.own in
    let heap = c.add.new.self in
    let place = c.in_ok-place.place in
    let b = c.in_ok-body.body.value in
    let world = λ (x : StackView). world_with_heap heap (world_of (record m { stack = x })) in
    let after = λ (x : StackView). core_block_body [] b (scene_in place (depth_of m.here) (trace_of (site_of m.here (outer_of fs) (handled_exception fs))) (handled_exception fs)) (state [] [] (world x))
    (λ o. after_stack fs m.here (call_end (state m.locals m.temps.items (world x)) o)) in
    IfOk-weaker c.begin_body.result
    (λ (d : NextAction). todo d m' ≡ after c.push.new.self)
    (λ (d : NextAction). todo d m' ≡ core_class_made c.args.class.now c.args.ds.items c.args.base (site_now m) (state_of m) (machine_rest m))
    (λ d h. h ∙ ap after c.in_ok-push.ensures ∙ class_runs m c.args.class.now c.args.ds c.args.base heap c.in_ok-object.object c.in_ok-id.id.at place c.in_ok-name.name b fs
    c.in_ok-object.ensures c.in_ok-id.ensures.1 c.in_ok-id.ensures.0 c.in_ok-place.ensures c.in_ok-body.ensures.cases (search rules) (ap (λ (x : StackView). x.own) c.in_ok-push.ensures))
    c.begin_body.ensures.next
