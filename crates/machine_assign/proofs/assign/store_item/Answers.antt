use Rattle.std.proofs.Common.{◌≡◌, ◌∙◌, ◌∷◌}
use Rattle.std.proofs.lemmas.Result.{IfOk-weaker}
use Rattle.machine_turns.specs.py_world.Targets.{store_item}
use Rattle.machine_turns.specs.core_meaning.Expressions.{eval}
use Rattle.machine_turns.specs.machine_state.declared.frame.Frame.TheVariants.{Target}
use Rattle.machine_turns.specs.machine_state.declared.frame.TargetFrame.TheVariants.{Item}
use Rattle.machine_turns.specs.machine_state.declared.machine.NextAction.{NextAction}
use Rattle.machine_turns.specs.machine_state.Places.{site_of}
use Rattle.machine_turns.specs.machine_state.Frames.{after_stack, handled_exception, outer_of, machine_rest, site_now, state_of, todo}
use Rattle.machine_assign.proofs.Begins.{item_begins}
use Rattle.machine_assign.proofs.assign.store_item.Goals as goal

pub returns-clause-next : goal.returns-clause-next
returns-clause-next c =
    let m = c.args.m.now in
    let m' = c.descend.new.m in
    let fs = Target (Item c.in_ok-clone.field-0 c.args.v) ∷ m.stack.own in
    let first = eval c.args.e.now.value in
    IfOk-weaker c.descend.result (λ (d : NextAction). todo d m' ≡ first (site_of m.here (outer_of fs) (handled_exception fs)) (state_of m) (after_stack fs m.here))
    (λ (d : NextAction). todo d m' ≡ store_item first (eval c.args.i.now.value) c.args.v (site_now m) (state_of m) (machine_rest m))
    (λ d h. h ∙ item_begins m.here m.stack.own (state_of m) first c.args.i.now c.in_ok-clone.field-0 c.args.v c.in_ok-clone.ensures.cases)
    c.descend.ensures.next
