use Rattle.std.proofs.Common.{◌∙◌, sym}
use Rattle.frame_stacks.proofs.Parking.{head_apart, head_used, none_thawed, thaws, view_thawed}
use Rattle.frame_stacks.proofs.stacks.Stacks.thaw.Goals as goal

pub splice-requires-clause-from : goal.splice-requires-clause-from
splice-requires-clause-from g c = head_used c.self.inside.cells c.self.inside.cells c.self.inside.own c.self.inside.parked.items c.self.invariant c.args.number c.in-Some.parked (sym c.take_parked.ensures.result ∙ c.in-Some.is)

pub splice-requires-clause-apart : goal.splice-requires-clause-apart
splice-requires-clause-apart g c = head_apart c.self.inside.cells c.self.inside.cells c.self.inside.own c.self.inside.parked.items c.self.invariant c.args.number c.in-Some.parked (sym c.take_parked.ensures.result ∙ c.in-Some.is)

pub invariant_of-self : goal.invariant_of-self
invariant_of-self g c =
    rw c.take_parked.ensures.rest
    (thaws c.self.inside.cells c.splice.new.cells c.self.inside.own c.self.inside.parked.items c.self.invariant c.args.number c.in-Some.parked (sym c.take_parked.ensures.result ∙ c.in-Some.is)
    c.splice.ensures.used c.splice.ensures.moved c.splice.ensures.others)

pub returns-in-Some : goal.returns-in-Some
returns-in-Some g c =
    rw c.take_parked.ensures.rest
    (view_thawed c.self.inside.cells c.splice.new.cells c.self.inside.own c.self.inside.parked.items c.self.invariant c.args.number c.in-Some.parked (sym c.take_parked.ensures.result ∙ c.in-Some.is)
    c.splice.ensures.used c.splice.ensures.moved c.splice.ensures.others c.args.self.now c.self.view_is)

pub returns-in-None : goal.returns-in-None
returns-in-None g c =
    rw c.take_parked.ensures.rest
    (none_thawed c.self.inside.cells c.self.inside.own c.self.inside.parked.items c.self.invariant c.args.number (sym c.take_parked.ensures.result ∙ c.in-None.is) c.args.self.now c.self.view_is)
