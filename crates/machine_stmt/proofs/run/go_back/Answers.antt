use Rattle.std.proofs.Common.{◌≡◌, ◌∙◌, ap}
use Rattle.std.proofs.lemmas.Result.{IfOk-weaker}
use Rattle.machine_state.specs.declared.frame.End.{End}
use Rattle.machine_state.specs.declared.frame.End.TheVariants as end
use Rattle.machine_state.specs.declared.machine.TurnEnd.{TurnEnd}
use Rattle.machine_state.specs.Places.{ends, outcome}
use Rattle.machine_state.specs.Frames.{ending, machine_rest, state_of}
use Rattle.machine_stmt.proofs.run.go_back.Goals as goal

pub returns-in-Next-clause-next : goal.returns-in-Next-clause-next
returns-in-Next-clause-next c =
    let m = c.args.m.now in
    let m' = c.end_next.new.m in
    let turn = λ (e : End). ends m.left (machine_rest m (outcome e (state_of m))) in
    IfOk-weaker c.end_next.result (λ (t : TurnEnd). turn end.Next ≡ ending t m') (λ (t : TurnEnd). turn c.args.end ≡ ending t m')
    (λ t h. ap turn c.in-Next.is ∙ h) c.end_next.ensures.next

pub returns-in-Value-clause-next : goal.returns-in-Value-clause-next
returns-in-Value-clause-next c =
    let m = c.args.m.now in
    let m' = c.end_value.new.m in
    let turn = λ (e : End). ends m.left (machine_rest m (outcome e (state_of m))) in
    IfOk-weaker c.end_value.result (λ (t : TurnEnd). turn (end.Value c.in-Value.v) ≡ ending t m') (λ (t : TurnEnd). turn c.args.end ≡ ending t m')
    (λ t h. ap turn c.in-Value.is ∙ h) c.end_value.ensures.next

pub returns-in-Returned-clause-next : goal.returns-in-Returned-clause-next
returns-in-Returned-clause-next c =
    let m = c.args.m.now in
    let m' = c.end_returned.new.m in
    let turn = λ (e : End). ends m.left (machine_rest m (outcome e (state_of m))) in
    IfOk-weaker c.end_returned.result (λ (t : TurnEnd). turn (end.Returned c.in-Returned.v) ≡ ending t m') (λ (t : TurnEnd). turn c.args.end ≡ ending t m')
    (λ t h. ap turn c.in-Returned.is ∙ h) c.end_returned.ensures.next

pub returns-in-Broke-clause-next : goal.returns-in-Broke-clause-next
returns-in-Broke-clause-next c =
    let m = c.args.m.now in
    let m' = c.end_other.new.m in
    let turn = λ (e : End). ends m.left (machine_rest m (outcome e (state_of m))) in
    IfOk-weaker c.end_other.result (λ (t : TurnEnd). turn end.Broke ≡ ending t m') (λ (t : TurnEnd). turn c.args.end ≡ ending t m')
    (λ t h. ap turn c.in-Broke.is ∙ h) c.end_other.ensures.next

pub returns-in-Continued-clause-next : goal.returns-in-Continued-clause-next
returns-in-Continued-clause-next c =
    let m = c.args.m.now in
    let m' = c.end_other-in-Continued.new.m in
    let turn = λ (e : End). ends m.left (machine_rest m (outcome e (state_of m))) in
    IfOk-weaker c.end_other-in-Continued.result (λ (t : TurnEnd). turn end.Continued ≡ ending t m') (λ (t : TurnEnd). turn c.args.end ≡ ending t m')
    (λ t h. ap turn c.in-Continued.is ∙ h) c.end_other-in-Continued.ensures.next

pub returns-in-Raised-clause-next : goal.returns-in-Raised-clause-next
returns-in-Raised-clause-next c =
    let m = c.args.m.now in
    let m' = c.end_other-in-Raised.new.m in
    let turn = λ (e : End). ends m.left (machine_rest m (outcome e (state_of m))) in
    IfOk-weaker c.end_other-in-Raised.result (λ (t : TurnEnd). turn (end.Raised c.in-Raised.e c.in-Raised.trace) ≡ ending t m') (λ (t : TurnEnd). turn c.args.end ≡ ending t m')
    (λ t h. ap turn c.in-Raised.is ∙ h) c.end_other-in-Raised.ensures.next
