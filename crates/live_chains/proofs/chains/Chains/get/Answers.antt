use Rattle.live_chains.proofs.Calls.{held_in_use, got_number}
use Rattle.live_chains.proofs.chains.Chains.get.Goals as goal

pub get-requires : goal.get-requires
get-requires c = rw c.cell.ensures (held_in_use c.self.inside.cells c.self.inside.heads.items c.self.invariant c.args.id (rw (← c.self.view_is) at c.requires))

pub returns : goal.returns
returns c = rw (← c.self.view_is) (got_number c.self.inside.cells c.self.inside.heads.items c.self.invariant c.args.id (rw (← c.self.view_is) at c.requires) c.get.result.now (rw c.cell.ensures at c.get.ensures))
