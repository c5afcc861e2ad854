use Rattle.live_chains.proofs.Calls.{held_in_use, unlinked_chains, unlinked_shown, unlinked_number}
use Rattle.live_chains.proofs.chains.Chains.unlink.Goals as goal

pub unlink-requires : goal.unlink-requires
unlink-requires g c = rw c.cell.ensures (held_in_use c.self.inside.cells c.self.inside.heads.items c.self.invariant c.args.id (rw (← c.self.view_is) at c.requires))

pub invariant_of-self : goal.invariant_of-self
invariant_of-self g c = unlinked_chains c.self.inside.cells c.self.inside.heads.items c.self.invariant c.args.id (rw (← c.self.view_is) at c.requires) c.unlink.result c.unlink.new.self (rw c.cell.ensures at c.unlink.ensures.taken)

pub returns-clause-value : goal.returns-clause-value
returns-clause-value g c = rw (← c.self.view_is) (unlinked_number c.self.inside.cells c.self.inside.heads.items c.self.invariant c.args.id (rw (← c.self.view_is) at c.requires) c.unlink.result c.unlink.new.self (rw c.cell.ensures at c.unlink.ensures.taken))

pub returns-clause-taken : goal.returns-clause-taken
returns-clause-taken g c = rw (← c.self.view_is) (unlinked_shown c.self.inside.cells c.self.inside.heads.items c.self.invariant c.args.id (rw (← c.self.view_is) at c.requires) c.unlink.result c.unlink.new.self (rw c.cell.ensures at c.unlink.ensures.taken))
