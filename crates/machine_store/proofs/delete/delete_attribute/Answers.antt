use Rattle.std.proofs.Common.{◌≡◌, ◌∙◌, ◌∷◌, rules}
use Rattle.std.proofs.lemmas.Result.{IfOk-weaker}
use Rattle.machine_assign.specs.py_world.Targets.{delete_attribute}
use Rattle.machine_assign.specs.core_meaning.Expressions.{eval}
use Rattle.machine_assign.specs.machine_state.declared.frame.Frame.TheVariants.{Target}
use Rattle.machine_assign.specs.machine_state.declared.frame.TargetFrame.TheVariants.{DeleteAttribute}
use Rattle.machine_assign.specs.machine_state.declared.machine.NextAction.{NextAction}
use Rattle.machine_assign.specs.machine_state.Places.{site_of}
use Rattle.machine_assign.specs.machine_state.Frames.{after_stack, handled_exception, outer_of, machine_rest, site_now, state_of, todo}
use Rattle.machine_store.proofs.Begins.{delete_attribute_begins}
use Rattle.machine_store.proofs.delete.delete_attribute.Goals as goal

pub returns-clause-next : goal.returns-clause-next
returns-clause-next c =
    let m = c.args.m.now in
    let m' = c.descend.new.m in
    let fs = Target (DeleteAttribute c.in_ok-clone.field-0) ∷ m.stack.own in
    let first = eval c.args.e.now.value in
    IfOk-weaker c.descend.result (λ (d : NextAction). todo d m' ≡ first (site_of m.here (outer_of fs) (handled_exception fs)) (state_of m) (after_stack fs m.here))
    (λ (d : NextAction). todo d m' ≡ delete_attribute first c.args.name.now (site_now m) (state_of m) (machine_rest m))
    (λ d h. h ∙ delete_attribute_begins m.here m.stack.own (state_of m) first c.args.name.now c.in_ok-clone.field-0 (search rules))
    c.descend.ensures.next
