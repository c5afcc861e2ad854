use Rattle.std.proofs.Common.{◌∙◌}
use Rattle.live_chains.proofs.Calls.{going_same, going_live, going_once}
use Rattle.live_chains.proofs.chains.Chains.down_of.Goals as goal

pub returns-clause-same : goal.returns-clause-same
returns-clause-same c = rw (← c.self.view_is) (going_same c.self.inside.cells c.self.inside.heads.items c.self.invariant c.args.which.now c.in_ok-roots.roots c.in_ok-ids.ids.items
    (rw c.deref.ensures.value at c.in_ok-roots.ensures) (rw c.deref-2.ensures.value at c.in_ok-ids.ensures))

pub returns-clause-live : goal.returns-clause-live
returns-clause-live c = rw (← c.self.view_is) (going_live c.self.inside.cells c.self.inside.heads.items c.self.invariant c.in_ok-roots.roots c.in_ok-ids.ids.items (rw c.deref-2.ensures.value at c.in_ok-ids.ensures))

pub returns-clause-once : goal.returns-clause-once
returns-clause-once c = going_once c.self.inside.cells c.self.inside.heads.items c.self.invariant c.in_ok-roots.roots c.in_ok-ids.ids.items (rw c.deref-2.ensures.value at c.in_ok-ids.ensures)
