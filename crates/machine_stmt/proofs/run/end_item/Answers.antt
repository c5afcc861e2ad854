use Rattle.std.proofs.Common.{◌≡◌, ◌∙◌, ap, sym}
use Rattle.std.proofs.lemmas.Result.{IfOk-weaker}
use Rattle.machine_state.specs.py_world.Outcome.{on_value}
use Rattle.machine_state.specs.declared.frame.End.{End}
use Rattle.machine_state.specs.declared.machine.TurnEnd.{TurnEnd}
use Rattle.machine_state.specs.Places.{ends, outcome}
use Rattle.machine_state.specs.Frames.{ending, on_item, machine_rest, site_now, state_of}
use Rattle.machine_stmt.proofs.run.end_item.Goals as goal

pub returns-in-Ok-clause-next : goal.returns-in-Ok-clause-next
returns-in-Ok-clause-next c =
    let m = c.args.m.now in
    let m' = c.take_item.new.m in
    IfOk-weaker c.take_item.result (λ (t : TurnEnd). ends m.left (on_item c.args.frame (site_now m) c.in-Ok.v (state_of m) (machine_rest m)) ≡ ending t m')
    (λ (t : TurnEnd). ends m.left (on_value (outcome c.args.end (state_of m)) (machine_rest m) (λ v s. on_item c.args.frame (site_now m) v s (machine_rest m))) ≡ ending t m')
    (λ t h. ap (λ (e : End). ends m.left (on_value (outcome e (state_of m)) (machine_rest m) (λ v s. on_item c.args.frame (site_now m) v s (machine_rest m)))) c.in-Ok.ensures ∙ h)
    c.take_item.ensures.next

pub returns-in-Err-clause-next : goal.returns-in-Err-clause-next
returns-in-Err-clause-next c =
    ap (ends c.args.m.now.left) (c.in-Err.ensures.1 (state_of c.args.m.now) (machine_rest c.args.m.now) _ ∙ ap (λ (e : End). machine_rest c.args.m.now (outcome e (state_of c.args.m.now))) (sym c.in-Err.ensures.0))
