use Rattle.std.proofs.Common.{◌≡◌, ◌∙◌, ◌∷◌, rules}
use Rattle.std.proofs.lemmas.Result.{IfOk-weaker}
use Rattle.machine_assign.specs.py_world.Targets.{augment_attribute}
use Rattle.machine_assign.specs.core_meaning.Expressions.{eval}
use Rattle.machine_assign.specs.machine_state.declared.frame.Frame.TheVariants.{Target}
use Rattle.machine_assign.specs.machine_state.declared.frame.TargetFrame.TheVariants.{AugmentAttribute}
use Rattle.machine_assign.specs.machine_state.declared.machine.NextAction.{NextAction}
use Rattle.machine_assign.specs.machine_state.Places.{site_of}
use Rattle.machine_assign.specs.machine_state.Frames.{after_stack, handled_exception, outer_of, machine_rest, site_now, state_of, todo}
use Rattle.machine_store.proofs.Begins.{augment_attribute_begins}
use Rattle.machine_store.proofs.augment.begin_attribute.Goals as goal

pub returns-clause-next : goal.returns-clause-next
returns-clause-next c =
    let m = c.args.m.now in
    let m' = c.descend.new.m in
    let fs = Target (AugmentAttribute c.in_ok-clone.field-0 c.args.op c.in_ok-clone-2.field-0) ∷ m.stack.own in
    let first = eval c.args.a.now.value in
    IfOk-weaker c.descend.result (λ (d : NextAction). todo d m' ≡ first (site_of m.here (outer_of fs) (handled_exception fs)) (state_of m) (after_stack fs m.here))
    (λ (d : NextAction). todo d m' ≡ augment_attribute first c.args.name.now c.args.op (eval c.args.e.now.value) (site_now m) (state_of m) (machine_rest m))
    (λ d h. h ∙ augment_attribute_begins m.here m.stack.own (state_of m) first c.args.name.now c.in_ok-clone.field-0 c.args.op c.args.e.now c.in_ok-clone-2.field-0 (search rules) c.in_ok-clone-2.ensures.cases)
    c.descend.ensures.next
