use Rattle.std.proofs.lemmas.Result.{IfOk-weaker}
use Rattle.machine_expr.proofs.containers.begin_slice.Goals as goal

pub returns-clause-next : goal.returns-clause-next
returns-clause-next c =
    IfOk-weaker c.descend.result _ _ (λ d h. rw (← c.in_ok-start.ensures.0, ← c.in_ok-stop.ensures.0, ← c.in_ok-step.ensures.0) h) c.descend.ensures.next
