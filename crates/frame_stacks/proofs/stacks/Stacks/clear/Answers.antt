use Rattle.std.proofs.Common.{[], ap, refl}
use Rattle.frame_stacks.specs.Lists.{values_of}
use Rattle.frame_stacks.proofs.Parking.{keeps, view_own}
use Rattle.frame_stacks.proofs.stacks.Stacks.clear.Goals as goal

pub invariant_of-self : goal.invariant_of-self
invariant_of-self g c = keeps c.self.inside.cells c.clear.new.cells c.self.inside.own c.self.inside.parked.items c.self.invariant c.clear.ensures.others (rw c.clear.ensures.empty refl)

pub returns : goal.returns
returns g c = view_own c.self.inside.cells c.clear.new.cells c.self.inside.own c.self.inside.parked.items c.self.invariant c.clear.ensures.others c.args.self.now c.self.view_is (λ xs. []) (ap values_of c.clear.ensures.empty)
