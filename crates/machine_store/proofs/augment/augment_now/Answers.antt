use Rattle.std.proofs.Common.{◌≡◌, ◌∙◌, List, ℕ, ap, rules}
use Rattle.std.proofs.lemmas.Result.{IfOk-weaker}
use Rattle.machine_assign.specs.py_world.Targets.{augmented, store_name}
use Rattle.machine_assign.specs.machine_state.declared.machine.NextAction.{NextAction}
use Rattle.machine_assign.specs.machine_state.Places.{ends}
use Rattle.machine_assign.specs.machine_state.Frames.{machine_rest, site_now, state_of, todo}
use Rattle.machine_assign.proofs.machine_turns_lemmas.Same.{same_run}
use Rattle.machine_store.proofs.Immediately.{augmented_there}
use Rattle.machine_store.proofs.augment.augment_now.Goals as goal

pub returns-in-Some-clause-next : goal.returns-in-Some-clause-next
returns-in-Some-clause-next c =
    let m = c.args.m.now in
    let m' = c.store.new.m in
    let d = c.in-Some.made in
    let tree = store_name c.args.name.now d.value (site_now m) (state_of m) (machine_rest m) in
    let whole = augmented c.args.x c.args.op c.args.y (store_name c.args.name.now) (site_now m) (state_of m) (machine_rest m) in
    IfOk-weaker c.store.result (λ (x : NextAction). todo x m' ≡ tree) (λ (x : NextAction). ends m'.left (todo x m') ≡ ends m.left whole)
    (λ x h. same_run d.left m'.left (todo x m') tree c.store.ensures.left h ∙ augmented_there m c.args.x c.args.y c.args.op c.args.name.now c.in_ok-made.field-0 d c.in-Some.is c.in_ok-made.ensures)
    c.store.ensures.next

pub returns-in_ok-push-in-None-clause-next : goal.returns-in_ok-push-in-None-clause-next
returns-in_ok-push-in-None-clause-next c =
    let m = c.args.m.now in
    let same : c.in_ok-name-in-None.name ≡ c.args.name.now = search rules in
    rw c.in_ok-push-in-None.ensures (ap (λ (n : List ℕ). ends m.left (augmented c.args.x c.args.op c.args.y (store_name n) (site_now m) (state_of m) (machine_rest m))) same)
