use Rattle.machine_store.proofs.Immediately.{fewer}
use Rattle.machine_simple.proofs.Immediately.{return_there}
use Rattle.machine_simple.proofs.begin.begin_return.Goals as goal

pub returns-in-Some-clause-next : goal.returns-in-Some-clause-next
returns-in-Some-clause-next c = return_there c.args.m.now c.args.e.now c.deref.result.now c.in_ok-there.field-0 c.in-Some.there c.deref.ensures c.in-Some.is c.in_ok-there.ensures

pub returns-in-Some-clause-left : goal.returns-in-Some-clause-left
returns-in-Some-clause-left c = fewer c.args.m.now c.args.e.now c.deref.result.now c.in_ok-there.field-0 c.in-Some.there c.deref.ensures c.in-Some.is c.in_ok-there.ensures

pub returns-in-None-clause-next : goal.returns-in-None-clause-next
returns-in-None-clause-next c = c.descend_into.ensures.next
