use Rattle.machine_flow.proofs.turns.take_for_turn.Goals as goal

pub returns-in-Next-clause-next : goal.returns-in-Next-clause-next
returns-in-Next-clause-next c = rw c.in-Next.is c.go_on.ensures.next

pub returns-in-Continued-clause-next : goal.returns-in-Continued-clause-next
returns-in-Continued-clause-next c = rw c.in-Continued.is c.go_on-in-Continued.ensures.next
