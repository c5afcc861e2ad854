use Rattle.frame_stacks.specs.Stacked.{with_first}
use Rattle.frame_stacks.proofs.Parking.{keeps, view_own}
use Rattle.frame_stacks.proofs.stacks.Stacks.replace_top.Goals as goal

pub invariant_of-self : goal.invariant_of-self
invariant_of-self g c = keeps c.self.inside.cells c.replace_first.new.cells c.self.inside.own c.self.inside.parked.items c.self.invariant c.replace_first.ensures.others c.replace_first.ensures.used

pub returns-clause-replaced : goal.returns-clause-replaced
returns-clause-replaced g c = view_own c.self.inside.cells c.replace_first.new.cells c.self.inside.own c.self.inside.parked.items c.self.invariant c.replace_first.ensures.others c.args.self.now c.self.view_is (λ xs. with_first c.args.value xs) c.replace_first.ensures.replaced
