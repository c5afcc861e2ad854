use Rattle.std.proofs.Common.{◌≡◌, ◌∙◌, ap}
use Rattle.std.proofs.lemmas.Result.{IfOk-weaker}
use Rattle.machine_state.specs.declared.frame.End.{End}
use Rattle.machine_state.specs.declared.frame.End.TheVariants as end
use Rattle.machine_state.specs.declared.frame.ModuleFrame.TheVariants as loads
use Rattle.machine_state.specs.declared.machine.TurnEnd.{TurnEnd}
use Rattle.machine_state.specs.Definings.{on_module}
use Rattle.machine_state.specs.Places.{ends, outcome}
use Rattle.machine_state.specs.Frames.{ending, machine_rest, site_now, state_of}
use Rattle.machine_import.proofs.turns.take_from.Goals as goal

pub returns-in-Value-clause-next : goal.returns-in-Value-clause-next
returns-in-Value-clause-next c =
    let m = c.args.m.now in
    let m' = c.from_behind.new.m in
    let turn = λ (e : End). ends m.left (on_module (loads.From c.args.dotted c.args.from c.args.all) (site_now m) (outcome e (state_of m)) (machine_rest m)) in
    IfOk-weaker c.from_behind.result (λ (t : TurnEnd). turn (end.Value c.in-Value.v) ≡ ending t m') (λ (t : TurnEnd). turn c.args.end ≡ ending t m')
    (λ t h. ap turn c.in-Value.is ∙ h) c.from_behind.ensures.next
