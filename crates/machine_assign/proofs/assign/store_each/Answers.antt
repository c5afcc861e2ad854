use Rattle.std.proofs.Common.{◌≡◌, ◌∙◌, ◌<◌, drop, get_or, length, rules, ap}
use Rattle.std.proofs.lemmas.Result.{IfOk-weaker}
use Rattle.machine_turns.specs.py_world.Targets.{store_each}
use Rattle.machine_turns.specs.core_meaning.Statements.{store_at, store_singles}
use Rattle.machine_turns.specs.machine_state.declared.machine.NextAction.{NextAction}
use Rattle.machine_turns.specs.machine_state.Places.{site_of}
use Rattle.machine_turns.specs.machine_state.Frames.{after_stack, handled_exception, outer_of, machine_rest, site_now, state_of, todo}
use Rattle.machine_assign.proofs.Places.{each_turns}
use Rattle.machine_turns.specs.machine_state.Stacks.{StackView}
use Rattle.machine_assign.proofs.assign.store_each.Goals as goal

pub returns-clause-next : goal.returns-clause-next
returns-clause-next c =
    let m = c.args.m.now in
    let m' = c.store_single.new.m in
    let ss = c.args.ss in
    let vs = c.args.vs in
    let at = c.args.at in
    let one = c.index.result.now in
    let v = c.index-v.result.now in
    let fs = c.push.new.self.own in
    let after = λ (x : StackView). store_at one.kind v (site_of m.here (outer_of fs) (handled_exception fs)) (state_of (record m { stack = x })) (after_stack fs m.here) in
    let within : at < length ss.value.items = search rules in
    let given : at < length vs.items = search rules in
    let here : one ≡ get_or ss.value.items at one = search rules in
    let there : v ≡ get_or vs.items at v = search rules in
    IfOk-weaker c.store_single.result
    (λ (d : NextAction). todo d m' ≡ after c.push.new.self)
    (λ (d : NextAction). todo d m' ≡ store_each (drop at (store_singles ss.value.items)) (drop at vs.items) (site_now m) (state_of m) (machine_rest m))
    (λ d h. h ∙ ap after c.in_ok-push.ensures ∙ each_turns m.here m.stack.own fs ss c.in_ok-again.again vs at one v (state_of m) within here given there (ap (λ (x : StackView). x.own) c.in_ok-push.ensures) c.in_ok-again.ensures.cases)
    c.store_single.ensures.next
