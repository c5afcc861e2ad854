use Rattle.std.proofs.Common.{◌≡◌, ◌∙◌, ◌∷◌, rules}
use Rattle.std.proofs.lemmas.Result.{IfOk-weaker}
use Rattle.machine_turns.specs.py_world.Targets.{store_attribute}
use Rattle.machine_turns.specs.core_meaning.Expressions.{eval}
use Rattle.machine_turns.specs.machine_state.declared.frame.Frame.TheVariants.{Target}
use Rattle.machine_turns.specs.machine_state.declared.frame.TargetFrame.TheVariants.{Attribute}
use Rattle.machine_turns.specs.machine_state.declared.machine.NextAction.{NextAction}
use Rattle.machine_turns.specs.machine_state.Places.{site_of}
use Rattle.machine_turns.specs.machine_state.Frames.{after_stack, handled_exception, outer_of, machine_rest, site_now, state_of, todo}
use Rattle.machine_assign.proofs.Begins.{attribute_begins}
use Rattle.machine_assign.proofs.assign.store_attribute.Goals as goal

pub returns-clause-next : goal.returns-clause-next
returns-clause-next c =
    let m = c.args.m.now in
    let m' = c.descend.new.m in
    let fs = Target (Attribute c.in_ok-clone.field-0 c.args.v) ∷ m.stack.own in
    let first = eval c.args.e.now.value in
    IfOk-weaker c.descend.result (λ (d : NextAction). todo d m' ≡ first (site_of m.here (outer_of fs) (handled_exception fs)) (state_of m) (after_stack fs m.here))
    (λ (d : NextAction). todo d m' ≡ store_attribute first c.args.name.now c.args.v (site_now m) (state_of m) (machine_rest m))
    (λ d h. h ∙ attribute_begins m.here m.stack.own (state_of m) first c.args.name.now c.in_ok-clone.field-0 c.args.v (search rules))
    c.descend.ensures.next
