use Rattle.std.proofs.Common.{◌≡◌, ◌∙◌, [], Some}
use Rattle.std.proofs.lemmas.Result.{IfOk-weaker}
use Rattle.py_values.specs.declared.value.Value.TheVariants as val
use Rattle.py_values.specs.declared.value.Value.{Value}
use Rattle.py_values.specs.Ends.{id_at}
use Rattle.py_world.specs.Loops.{behind_target, turn_with}
use Rattle.py_world.specs.Outcome.{on_next}
use Rattle.py_world.specs.World.{with_heap}
use Rattle.machine_state.specs.core_meaning.Requests.{ForOf}
use Rattle.machine_state.specs.core_meaning.Statements.{core_block_body, store}
use Rattle.machine_state.specs.declared.machine.NextAction.{NextAction}
use Rattle.machine_state.specs.Places.{CoreState}
use Rattle.machine_state.specs.Frames.{machine_rest, site_now, state_of, todo}
use Rattle.machine_flow.proofs.Elements.{element_given, element_new, element_put}
use Rattle.machine_flow.proofs.turns.take_element.Goals as goal

pub returns-in-Give-clause-next : goal.returns-in-Give-clause-next
returns-in-Give-clause-next c =
    let m = c.args.m.now in
    let m' = c.store_element.new.m in
    let t = c.args.target.value in
    let b = c.args.body.value in
    let k = machine_rest m in
    let p = site_now m in
    let s = state_of m in
    let next = c.place_behind-next.result in
    let stored = λ (v : Value) (s : CoreState). store t v p s (λ o. on_next o k (λ s. behind_target (ForOf t b) (core_block_body [] b) next p s k)) in
    IfOk-weaker c.store_element.result (λ (d : NextAction). todo d m' ≡ stored c.in-Give.v s)
    (λ (d : NextAction). todo d m' ≡ turn_with (ForOf t b) (store t) (core_block_body [] b) c.args.at (Some c.args.made) p s k)
    (λ d h. h ∙ element_given t b c.args.at next c.args.made p s k c.place_behind-next.ensures c.in-Give.v _ c.in-Give.is)
    c.store_element.ensures.next

pub returns-in_ok-id-in-New-clause-next : goal.returns-in_ok-id-in-New-clause-next
returns-in_ok-id-in-New-clause-next c =
    let m = c.args.m.now in
    let m' = c.store_element-in-New.new.m in
    let t = c.args.target.value in
    let b = c.args.body.value in
    let k = machine_rest m in
    let p = site_now m in
    let s = state_of m in
    let next = c.place_behind-next.result in
    let stored = λ (v : Value) (s : CoreState). store t v p s (λ o. on_next o k (λ s. behind_target (ForOf t b) (core_block_body [] b) next p s k)) in
    IfOk-weaker c.store_element-in-New.result (λ (d : NextAction). todo d m' ≡ stored (val.Ref (id_at c.in_ok-id-in-New.id.at)) (with_heap c.add.new.self s))
    (λ (d : NextAction). todo d m' ≡ turn_with (ForOf t b) (store t) (core_block_body [] b) c.args.at (Some c.args.made) p s k)
    (λ d h. h ∙ element_new t b c.args.at next c.args.made p s k c.place_behind-next.ensures c.in-New.obj _ c.add.new.self c.in_ok-id-in-New.id.at c.in-New.is c.in_ok-id-in-New.ensures.1 c.in_ok-id-in-New.ensures.0)
    c.store_element-in-New.ensures.next

pub returns-in_ok-change-in-Put-clause-next : goal.returns-in_ok-change-in-Put-clause-next
returns-in_ok-change-in-Put-clause-next c =
    let m = c.args.m.now in
    let m' = c.store_element-in-Put.new.m in
    let t = c.args.target.value in
    let b = c.args.body.value in
    let k = machine_rest m in
    let p = site_now m in
    let s = state_of m in
    let next = c.place_behind-next.result in
    let stored = λ (v : Value) (s : CoreState). store t v p s (λ o. on_next o k (λ s. behind_target (ForOf t b) (core_block_body [] b) next p s k)) in
    IfOk-weaker c.store_element-in-Put.result (λ (d : NextAction). todo d m' ≡ stored c.in-Put.v (with_heap c.change.new.self s))
    (λ (d : NextAction). todo d m' ≡ turn_with (ForOf t b) (store t) (core_block_body [] b) c.args.at (Some c.args.made) p s k)
    (λ d h. h ∙ element_put t b c.args.at next c.args.made p s k c.place_behind-next.ensures c.in-Put.id c.in-Put.change c.in-Put.v _ c.change.new.self c.in-Put.is c.in_ok-change-in-Put.ensures)
    c.store_element-in-Put.ensures.next
