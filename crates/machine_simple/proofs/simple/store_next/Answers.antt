use Rattle.std.proofs.Common.{◌≡◌, ◌∙◌, ◌<◌, drop, get_or, length, rules, ap}
use Rattle.std.proofs.lemmas.Result.{IfOk-weaker}
use Rattle.assert_explain.specs.py_world.Targets.{store_all}
use Rattle.machine_unwind.specs.core_meaning.Statements.{store, stores}
use Rattle.machine_unwind.specs.machine_state.declared.machine.NextAction.{NextAction}
use Rattle.machine_unwind.specs.machine_state.Places.{site_of}
use Rattle.machine_unwind.specs.machine_state.Frames.{after_stack, handled_exception, outer_of, machine_rest, site_now, state_of, todo}
use Rattle.machine_simple.proofs.Targets.{next_turns}
use Rattle.machine_unwind.specs.machine_state.Stacks.{StackView}
use Rattle.machine_simple.proofs.simple.store_next.Goals as goal

pub returns-clause-next : goal.returns-clause-next
returns-clause-next c =
    let m = c.args.m.now in
    let m' = c.store_target-2.new.m in
    let ts = c.args.ts in
    let at = c.args.at in
    let v = c.args.v in
    let target = c.index-2.result.now in
    let fs = c.push.new.self.own in
    let after = λ (x : StackView). store target v (site_of m.here (outer_of fs) (handled_exception fs)) (state_of (record m { stack = x })) (after_stack fs m.here) in
    let within : at < length ts.value.items = search rules in
    let here : target ≡ get_or ts.value.items at target = search rules in
    IfOk-weaker c.store_target-2.result
    (λ (d : NextAction). todo d m' ≡ after c.push.new.self)
    (λ (d : NextAction). todo d m' ≡ store_all (stores (drop at ts.value.items)) v (site_now m) (state_of m) (machine_rest m))
    (λ d h. h ∙ ap after c.in_ok-push.ensures ∙ next_turns m.here m.stack.own fs ts c.in_ok-again.again at target v (state_of m) within here (ap (λ (x : StackView). x.own) c.in_ok-push.ensures) c.in_ok-again.ensures.cases)
    c.store_target-2.ensures.next
