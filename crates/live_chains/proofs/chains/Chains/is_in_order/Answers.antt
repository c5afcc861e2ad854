use Rattle.live_chains.specs.Chained.{merged}
use Rattle.live_chains.proofs.Calls.{in_order, single}
use Rattle.live_chains.proofs.Found.{id_numbers}
use Rattle.live_chains.proofs.chains.Chains.is_in_order.Goals as goal

pub returns-clause-rising : goal.returns-clause-rising
returns-clause-rising c = rw (← c.self.view_is) (in_order c.self.inside.cells c.self.inside.heads.items c.self.invariant)

pub returns-clause-named : goal.returns-clause-named
returns-clause-named c = rw (← c.self.view_is) (id_numbers (merged c.self.inside.cells c.self.inside.heads.items))

pub returns-clause-single : goal.returns-clause-single
returns-clause-single c = rw (← c.self.view_is) (single c.self.inside.cells c.self.inside.heads.items c.self.invariant)
