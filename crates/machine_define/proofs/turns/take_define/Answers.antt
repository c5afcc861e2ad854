use Rattle.std.proofs.Common.{◌≡◌, ◌∙◌, sym, ap}
use Rattle.std.proofs.lemmas.Result.{IfOk-weaker}
use Rattle.machine_state.specs.py_world.Outcome.{on_value}
use Rattle.machine_state.specs.declared.frame.End.{End}
use Rattle.machine_state.specs.declared.machine.NextAction.{NextAction}
use Rattle.machine_state.specs.Definings.{on_define}
use Rattle.machine_state.specs.Places.{CoreRest, outcome}
use Rattle.machine_state.specs.Frames.{machine_rest, site_now, state_of, todo}
use Rattle.machine_define.proofs.turns.take_define.Goals as goal

pub returns-in-Value-clause-next : goal.returns-in-Value-clause-next
returns-in-Value-clause-next c =
    let m = c.args.m.now in
    let m' = c.take_value.new.m in
    let turn : End → CoreRest = λ e. on_value (outcome e (state_of m)) (machine_rest m) (λ v s. on_define c.args.frame (site_now m) v s (machine_rest m)) in
    IfOk-weaker c.take_value.result (λ (d : NextAction). todo d m' ≡ on_define c.args.frame (site_now m) c.in-Value.v (state_of m) (machine_rest m)) (λ (d : NextAction). todo d m' ≡ turn c.args.end)
    (λ d h. h ∙ sym (ap turn c.in-Value.is)) c.take_value.ensures.next
