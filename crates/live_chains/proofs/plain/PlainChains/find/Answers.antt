use Rattle.live_chains.proofs.Listed.{found_live}
use Rattle.live_chains.proofs.plain.PlainChains.find.Goals as goal

pub returns-clause-live : goal.returns-clause-live
returns-clause-live c = rw (← c.self.view_is) (found_live c.args.def c.args.node c.self.inside.live.items c.find_in.result (rw c.deref.ensures.value at c.find_in.ensures))
