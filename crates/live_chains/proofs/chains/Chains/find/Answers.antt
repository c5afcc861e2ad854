use Rattle.live_chains.proofs.Calls.{found_same, found_live}
use Rattle.live_chains.proofs.chains.Chains.find.Goals as goal

pub find_in-requires : goal.find_in-requires
find_in-requires c = rw c.deref.ensures.value c.self.invariant

pub returns-clause-same : goal.returns-clause-same
returns-clause-same c = rw (← c.self.view_is) (found_same c.self.inside.cells c.self.inside.heads.items c.self.invariant c.args.def c.args.node c.find_in.result (rw c.deref.ensures.value at c.find_in.ensures))

pub returns-clause-live : goal.returns-clause-live
returns-clause-live c = rw (← c.self.view_is) (found_live c.self.inside.cells c.self.inside.heads.items c.self.invariant c.args.def c.args.node c.find_in.result (rw c.deref.ensures.value at c.find_in.ensures))
