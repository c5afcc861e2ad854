use Rattle.std.proofs.lemmas.Result.{IfOk-weaker}
use Rattle.machine_expr.proofs.evaluate.begin_call.Goals as goal

pub returns-clause-next : goal.returns-clause-next
returns-clause-next c = IfOk-weaker c.descend.result _ _ (λ d h. rw (← c.in_ok-named.ensures.cases, ← c.in_ok-operands.ensures.cases) h) c.descend.ensures.next
