use Rattle.std.proofs.Common.{◌≡◌, ◌∙◌, ap, sym}
use Rattle.std.proofs.lemmas.Result.{IfOk-weaker}
use Rattle.py_core.specs.declared.stmt.CoreSingleKind.{CoreSingleKind}
use Rattle.machine_assign.specs.py_world.Targets.{augment_attribute, augment_item}
use Rattle.machine_assign.specs.core_meaning.Expressions.{eval}
use Rattle.machine_assign.specs.core_meaning.Statements.{augment_at}
use Rattle.machine_assign.specs.machine_state.declared.machine.NextAction.{NextAction}
use Rattle.machine_assign.specs.machine_state.Places.{ends}
use Rattle.machine_assign.specs.machine_state.Frames.{machine_rest, site_now, state_of, todo}
use Rattle.machine_assign.proofs.machine_turns_lemmas.Same.{same_run}
use Rattle.machine_store.proofs.augment.begin_augment.Goals as goal

pub returns-in-Attribute-clause-next : goal.returns-in-Attribute-clause-next
returns-in-Attribute-clause-next c =
    let m = c.args.m.now in
    let m' = c.begin_attribute.new.m in
    let e = eval c.args.e.now.value in
    let tree = augment_attribute (eval c.in-Attribute.a.value) c.in-Attribute.name c.args.op e (site_now m) (state_of m) (machine_rest m) in
    IfOk-weaker c.begin_attribute.result (λ (d : NextAction). todo d m' ≡ tree)
    (λ (d : NextAction). ends m'.left (todo d m') ≡ ends m.left (augment_at c.args.target.now.kind c.args.op e (site_now m) (state_of m) (machine_rest m)))
    (λ d h. same_run m.left m'.left (todo d m') tree c.begin_attribute.ensures.left h
    ∙ ap (λ (kind : CoreSingleKind). ends m.left (augment_at kind c.args.op e (site_now m) (state_of m) (machine_rest m))) (sym c.in-Attribute.is))
    c.begin_attribute.ensures.next

pub returns-in-Subscript-clause-next : goal.returns-in-Subscript-clause-next
returns-in-Subscript-clause-next c =
    let m = c.args.m.now in
    let m' = c.begin_item.new.m in
    let e = eval c.args.e.now.value in
    let tree = augment_item (eval c.in-Subscript.a.value) (eval c.in-Subscript.i.value) c.args.op e (site_now m) (state_of m) (machine_rest m) in
    IfOk-weaker c.begin_item.result (λ (d : NextAction). todo d m' ≡ tree)
    (λ (d : NextAction). ends m'.left (todo d m') ≡ ends m.left (augment_at c.args.target.now.kind c.args.op e (site_now m) (state_of m) (machine_rest m)))
    (λ d h. same_run m.left m'.left (todo d m') tree c.begin_item.ensures.left h
    ∙ ap (λ (kind : CoreSingleKind). ends m.left (augment_at kind c.args.op e (site_now m) (state_of m) (machine_rest m))) (sym c.in-Subscript.is))
    c.begin_item.ensures.next
