use Rattle.std.proofs.Common.{◌≡◌, ◌∙◌, Option, Some, IfSome, ap, sym, subst, refl}
use Rattle.std.proofs.lemmas.Result.{IfOk-weaker}
use Rattle.py_values.specs.declared.end.Effect.TheVariants.{Give}
use Rattle.py_values.specs.declared.value.Value.{Value}
use Rattle.machine_assign.specs.py_world.Names.{value_of_name}
use Rattle.machine_assign.specs.py_world.Targets.{augment_name, augment_on, store_name}
use Rattle.machine_assign.specs.core_meaning.Expressions.{eval}
use Rattle.machine_assign.specs.machine_state.declared.machine.NextAction.{NextAction}
use Rattle.machine_assign.specs.machine_state.Places.{ends}
use Rattle.machine_assign.specs.machine_state.Frames.{machine_rest, site_now, state_of, todo}
use Rattle.machine_store.proofs.Looked.{augment_found}
use Rattle.machine_store.proofs.augment.augment_name.Goals as goal

pub returns-in-Some-clause-next : goal.returns-in-Some-clause-next
returns-in-Some-clause-next c =
    let m = c.args.m.now in
    let m' = c.augment_from.new.m in
    let e = eval c.args.e.now.value in
    let p = site_now m in
    let s = state_of m in
    let k = machine_rest m in
    let name = c.args.name.now in
    let x = c.in-Some.x in
    let is : value_of_name name p.scene m.locals m.heap ≡ Give x 0 = subst (λ (o : Option Value). IfSome o (λ v. value_of_name name p.scene m.locals m.heap ≡ Give v 0)) c.in-Some.is c.in_ok-x.ensures in
    IfOk-weaker c.augment_from.result (λ (d : NextAction). ends m'.left (todo d m') ≡ ends m.left (augment_on x c.args.op e (store_name name) p s k))
    (λ (d : NextAction). ends m'.left (todo d m') ≡ ends m.left (augment_name name c.args.op e p s k))
    (λ d h. h ∙ ap (ends m.left) (augment_found name c.args.op e p s k (Give x 0) (sym is) x 0 refl))
    c.augment_from.ensures.next
