use Rattle.std.proofs.Common.{◌∙◌, sym}
use Rattle.frame_stacks.proofs.Parking.{head_used, lets_go, none_without, view_without}
use Rattle.frame_stacks.proofs.stacks.Stacks.abandon.Goals as goal

pub release-requires : goal.release-requires
release-requires g c = head_used c.self.inside.cells c.self.inside.cells c.self.inside.own c.self.inside.parked.items c.self.invariant c.args.number c.in-Some.parked (sym c.take_parked.ensures.result ∙ c.in-Some.is)

pub invariant_of-self : goal.invariant_of-self
invariant_of-self g c =
    rw c.take_parked.ensures.rest
    (lets_go c.self.inside.cells c.release.new.cells c.self.inside.own c.self.inside.parked.items c.self.invariant c.args.number c.in-Some.parked (sym c.take_parked.ensures.result ∙ c.in-Some.is) c.release.ensures)

pub returns-in-Some : goal.returns-in-Some
returns-in-Some g c =
    rw c.take_parked.ensures.rest
    (view_without c.self.inside.cells c.release.new.cells c.self.inside.own c.self.inside.parked.items c.self.invariant c.args.number c.in-Some.parked (sym c.take_parked.ensures.result ∙ c.in-Some.is) c.release.ensures c.args.self.now c.self.view_is)

pub returns-in-None : goal.returns-in-None
returns-in-None g c =
    rw c.take_parked.ensures.rest
    (none_without c.self.inside.cells c.self.inside.own c.self.inside.parked.items c.self.invariant c.args.number (sym c.take_parked.ensures.result ∙ c.in-None.is) c.args.self.now c.self.view_is)
