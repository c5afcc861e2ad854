use Rattle.std.proofs.Common.{◌≡◌, ◌∙◌, ap, List, ℕ, rules}
use Rattle.std.proofs.lemmas.Result.{IfOk-weaker}
use Rattle.machine_assign.specs.py_world.Targets.{augmented, augment_on, store_name}
use Rattle.machine_assign.specs.core_meaning.Expressions.{eval}
use Rattle.machine_assign.specs.machine_state.declared.machine.NextAction.{NextAction}
use Rattle.machine_assign.specs.machine_state.Places.{ends}
use Rattle.machine_assign.specs.machine_state.Frames.{machine_rest, site_now, state_of, todo}
use Rattle.machine_assign.proofs.machine_turns_lemmas.Same.{same_run}
use Rattle.machine_store.proofs.Immediately.{augment_there}
use Rattle.machine_store.proofs.augment.augment_from.Goals as goal

pub returns-in-Some-clause-next : goal.returns-in-Some-clause-next
returns-in-Some-clause-next c =
    let m = c.args.m.now in
    let m' = c.augment_now.new.m in
    let x = c.in-Some.there in
    let tree = augmented c.args.x c.args.op x.value (store_name c.args.name.now) (site_now m) (state_of m) (machine_rest m) in
    let whole = augment_on c.args.x c.args.op (eval c.args.e.now.value) (store_name c.args.name.now) (site_now m) (state_of m) (machine_rest m) in
    IfOk-weaker c.augment_now.result (λ (d : NextAction). ends m'.left (todo d m') ≡ ends x.left tree) (λ (d : NextAction). ends m'.left (todo d m') ≡ ends m.left whole)
    (λ d h. h ∙ augment_there m c.args.e.now c.deref.result.now c.in_ok-there.field-0 x c.deref.ensures c.in-Some.is c.in_ok-there.ensures c.args.x c.args.name.now c.args.op)
    c.augment_now.ensures.next

pub returns-in_ok-name-in-None-clause-next : goal.returns-in_ok-name-in-None-clause-next
returns-in_ok-name-in-None-clause-next c =
    let m = c.args.m.now in
    let m' = c.descend.new.m in
    let tree = augment_on c.args.x c.args.op (eval c.args.e.now.value) (store_name c.in_ok-name-in-None.name) (site_now m) (state_of m) (machine_rest m) in
    let whole = augment_on c.args.x c.args.op (eval c.args.e.now.value) (store_name c.args.name.now) (site_now m) (state_of m) (machine_rest m) in
    IfOk-weaker c.descend.result (λ (d : NextAction). todo d m' ≡ tree) (λ (d : NextAction). ends m'.left (todo d m') ≡ ends m.left whole)
    (λ d h. same_run m.left m'.left (todo d m') tree c.descend.ensures.left h ∙ ap (λ (n : List ℕ). ends m.left (augment_on c.args.x c.args.op (eval c.args.e.now.value) (store_name n) (site_now m) (state_of m) (machine_rest m))) (search rules))
    c.descend.ensures.next
