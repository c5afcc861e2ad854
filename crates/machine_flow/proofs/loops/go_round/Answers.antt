use Rattle.std.proofs.Common.{◌≡◌, ◌∙◌, Bool, true, ap, sym}
use Rattle.std.proofs.lemmas.Result.{IfOk-weaker}
use Rattle.py_kinds.specs.Truth.{truth}
use Rattle.py_world.specs.Outcome.{Next, if_true}
use Rattle.py_world.specs.Statements.{asked, loop}
use Rattle.machine_state.specs.core_meaning.Requests.{TurnOf}
use Rattle.machine_state.specs.core_meaning.Expressions.{eval}
use Rattle.machine_state.specs.declared.machine.TurnEnd.{TurnEnd}
use Rattle.machine_state.specs.Places.{ends}
use Rattle.machine_state.specs.Frames.{ending, machine_rest, site_now, state_of}
use Rattle.machine_flow.proofs.Immediately.{loop_there}
use Rattle.machine_flow.proofs.loops.go_round.Goals as goal

pub returns-then-truth-clause-next : goal.returns-then-truth-clause-next
returns-then-truth-clause-next c =
    let m = c.args.m.now in
    let m' = c.begin_turn.new.m in
    let x = c.in-Some.there in
    let body = c.args.body.value in
    let turn = asked (TurnOf c.args.test.value body) (site_now m) (state_of m) (machine_rest m) in
    let over = machine_rest m (Next (state_of m)) in
    let whole = loop (TurnOf c.args.test.value body) (eval c.args.test.value) (site_now m) (state_of m) (machine_rest m) in
    let holds : truth m.heap x.value ≡ true = cc c.if-truth.ensures in
    IfOk-weaker c.begin_turn.result (λ (t : TurnEnd). ends x.left turn ≡ ending t m') (λ (t : TurnEnd). ends m.left whole ≡ ending t m')
    (λ t h. sym (loop_there m c.args.test c.deref.result.now c.in_ok-there.field-0 x c.deref.ensures c.in-Some.is c.in_ok-there.ensures body)
    ∙ ap (λ (b : Bool). ends x.left (if_true b turn over)) holds ∙ h)
    c.begin_turn.ensures.next
