use Rattle.frame_stacks.proofs.Parking.{keeps, others_stay, view_popped}
use Rattle.frame_stacks.proofs.stacks.Stacks.pop.Goals as goal

pub invariant_of-self : goal.invariant_of-self
invariant_of-self g c = keeps c.self.inside.cells c.pop.new.cells c.self.inside.own c.self.inside.parked.items c.self.invariant c.pop.ensures.others c.pop.ensures.used

pub returns-clause-popped : goal.returns-clause-popped
returns-clause-popped g c = view_popped c.self.inside.cells c.pop.new.cells c.self.inside.own c.self.inside.parked.items c.self.invariant c.pop.ensures.others c.args.self.now c.self.view_is c.pop.result c.pop.ensures.taken

pub returns-clause-frozen : goal.returns-clause-frozen
returns-clause-frozen g c = others_stay c.self.inside.cells c.pop.new.cells c.self.inside.own c.self.inside.parked.items c.self.invariant c.pop.ensures.others c.args.self.now c.self.view_is
