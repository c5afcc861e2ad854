use Rattle.std.proofs.Common.{◌∙◌, ◌∷◌, None, ap, refl}
use Rattle.machine_state.specs.declared.frame.CallerFrame.{CallerFrame}
use Rattle.machine_state.specs.declared.frame.Frame.TheVariants.{Caller}
use Rattle.machine_state.specs.Stacks.{StackView}
use Rattle.machine_frames.proofs.Found.{woken}
use Rattle.machine_frames.proofs.waking.wake_frames.Goals as goal

pub returns : goal.returns
returns c =
    let caller : CallerFrame = record { from = None; locals = c.new.result; temps = c.new-2.result } in
    woken c.args.stack.now c.push.new.self c.thaw.new.self c.args.number caller
    (c.in_ok-push.ensures ∙ ap (λ (s : StackView). record { own = Caller caller ∷ s.own; frozen = s.frozen }) c.clear.ensures) refl c.new.ensures c.new-2.ensures.items c.thaw.result c.thaw.ensures.kept c.thaw.ensures.thawed
