use Rattle.std.proofs.Common.{sym}
use Rattle.machine_simple.proofs.begin.begin_yield.Goals as goal

pub returns-in-Some-clause-next : goal.returns-in-Some-clause-next
returns-in-Some-clause-next c = rw (c.in-Some.is, sym c.in_ok-given.ensures.cases) c.descend.ensures.next
