use Rattle.std.proofs.Common.{◌≡◌, ◌∙◌, [], ap}
use Rattle.std.proofs.lemmas.Result.{IfOk-weaker}
use Rattle.py_core.specs.declared.stmt.CoreTarget.{CoreTarget}
use Rattle.py_world.specs.Loops.{behind_target}
use Rattle.py_world.specs.Outcome.{on_next}
use Rattle.machine_state.specs.core_meaning.Requests.{ForOf}
use Rattle.machine_state.specs.core_meaning.Statements.{core_block_body, store}
use Rattle.machine_state.specs.declared.machine.NextAction.{NextAction}
use Rattle.machine_state.specs.Places.{site_of}
use Rattle.machine_state.specs.Frames.{after_stack, handled_exception, outer_of, machine_rest, site_now, state_of, todo}
use Rattle.machine_flow.proofs.Elements.{element_stored}
use Rattle.machine_state.specs.Stacks.{StackView}
use Rattle.machine_flow.proofs.turns.store_element.Goals as goal

pub returns-clause-next : goal.returns-clause-next
returns-clause-next c =
    let m = c.args.m.now in
    let m' = c.store_target.new.m in
    let fs' = c.push.new.self.own in
    let t = c.args.target in
    let b = c.args.body in
    let v = c.args.v in
    let stored = λ (y : StackView) (x : CoreTarget). store x v (site_of m.here (outer_of fs') (handled_exception fs')) (state_of (record m { stack = y })) (after_stack fs' m.here) in
    IfOk-weaker c.store_target.result (λ (d : NextAction). todo d m' ≡ stored c.push.new.self c.deref.result.now)
    (λ (d : NextAction). todo d m' ≡ store t.value v (site_now m) (state_of m) (λ o. on_next o (machine_rest m) (λ s. behind_target (ForOf t.value b.value) (core_block_body [] b.value) c.args.next (site_now m) s (machine_rest m))))
    (λ d h. h ∙ ap (stored c.push.new.self) c.deref.ensures ∙ ap (λ (y : StackView). stored y t.value) c.in_ok-push.ensures ∙ element_stored m.here m.stack.own (state_of m) t c.in_ok-again.again b c.args.next v fs' c.in_ok-again.ensures.cases (ap (λ (x : StackView). x.own) c.in_ok-push.ensures))
    c.store_target.ensures.next
