use Rattle.std.proofs.Common.{◌≡◌, ◌∙◌, ap}
use Rattle.std.proofs.lemmas.Result.{IfOk-weaker}
use Rattle.machine_assign.specs.py_world.Targets.{augment_name, augment_on, store_name}
use Rattle.machine_assign.specs.py_world.Outcome.{raised}
use Rattle.machine_assign.specs.py_world.Site.{trace_of}
use Rattle.machine_assign.specs.core_meaning.Expressions.{eval}
use Rattle.machine_assign.specs.machine_state.declared.machine.NextAction.{NextAction}
use Rattle.machine_assign.specs.machine_state.Places.{ends}
use Rattle.machine_assign.specs.machine_state.Frames.{machine_rest, site_now, state_of, todo}
use Rattle.machine_assign.proofs.machine_turns_lemmas.Same.{same_run}
use Rattle.machine_store.proofs.Looked.{augment_found, augment_fails}
use Rattle.machine_store.proofs.augment.augment_unbound.Goals as goal

pub returns-in-Give-clause-next : goal.returns-in-Give-clause-next
returns-in-Give-clause-next c =
    let m = c.args.m.now in
    let m' = c.augment_from.new.m in
    let e = eval c.args.e.now.value in
    let p = site_now m in
    let s = state_of m in
    let k = machine_rest m in
    IfOk-weaker c.augment_from.result (λ (d : NextAction). ends m'.left (todo d m') ≡ ends m.left (augment_on c.in-Give.x c.args.op e (store_name c.args.name.now) p s k))
    (λ (d : NextAction). ends m'.left (todo d m') ≡ ends m.left (augment_name c.args.name.now c.args.op e p s k))
    (λ d h. h ∙ ap (ends m.left) (augment_found c.args.name.now c.args.op e p s k c.in_ok-x.field-0 c.in_ok-x.ensures c.in-Give.x _ c.in-Give.is))
    c.augment_from.ensures.next

pub returns-in-Fail-clause-next : goal.returns-in-Fail-clause-next
returns-in-Fail-clause-next c =
    let m = c.args.m.now in
    let m' = c.raise.new.self in
    let e = eval c.args.e.now.value in
    let p = site_now m in
    let s = state_of m in
    let k = machine_rest m in
    let tree = k (raised c.in-Fail.raise (trace_of p) s) in
    IfOk-weaker c.raise.result (λ (d : NextAction). todo d m' ≡ tree)
    (λ (d : NextAction). ends m'.left (todo d m') ≡ ends m.left (augment_name c.args.name.now c.args.op e p s k))
    (λ d h. same_run m.left m'.left (todo d m') tree c.raise.ensures.left h ∙ ap (ends m.left) (augment_fails c.args.name.now c.args.op e p s k c.in_ok-x.field-0 c.in_ok-x.ensures c.in-Fail.raise _ c.in-Fail.is))
    c.raise.ensures.next
