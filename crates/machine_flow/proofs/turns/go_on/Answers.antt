use Rattle.std.proofs.Common.{◌≡◌, ◌∙◌, ap, sym}
use Rattle.std.proofs.lemmas.Result.{IfOk-weaker}
use Rattle.py_items.specs.Turns.{turn_of}
use Rattle.py_world.specs.Loops.{for_from}
use Rattle.py_world.specs.Statements.{asked}
use Rattle.machine_state.specs.core_meaning.Requests.{ForOf}
use Rattle.machine_state.specs.declared.machine.TurnEnd.{TurnEnd}
use Rattle.machine_state.specs.Places.{ends}
use Rattle.machine_state.specs.Frames.{ending, machine_rest, site_now, state_of}
use Rattle.machine_flow.proofs.Elements.{there_asks}
use Rattle.machine_flow.proofs.turns.go_on.Goals as goal

pub returns-in-There-clause-next : goal.returns-in-There-clause-next
returns-in-There-clause-next c =
    let m = c.args.m.now in
    let m' = c.begin_turn.new.m in
    let t = c.args.target.value in
    let b = c.args.body.value in
    let at = c.args.at in
    IfOk-weaker c.begin_turn.result (λ (e : TurnEnd). ends m.left (asked (ForOf t b at) (site_now m) (state_of m) (machine_rest m)) ≡ ending e m')
    (λ (e : TurnEnd). ends m.left (for_from (ForOf t b) at (site_now m) (state_of m) (machine_rest m)) ≡ ending e m')
    (λ e h. ap (ends m.left) (there_asks (turn_of m.heap at) (ForOf t b at) (site_now m) (state_of m) (machine_rest m) (sym c.in_ok-seen.ensures ∙ c.in-There.is)) ∙ h)
    c.begin_turn.ensures.next
