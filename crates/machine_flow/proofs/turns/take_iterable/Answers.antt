use Rattle.machine_flow.proofs.turns.take_iterable.Goals as goal

pub returns-in-Value-clause-next : goal.returns-in-Value-clause-next
returns-in-Value-clause-next c = rw c.in-Value.is c.go_over.ensures.next
