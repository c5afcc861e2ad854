use Rattle.std.proofs.Common.{◌∷◌}
use Rattle.std.proofs.lemmas.Result.{on_ok_weaker}
use Rattle.frame_stacks.proofs.Parking.{keeps, others_stay, view_own}
use Rattle.frame_stacks.proofs.stacks.Stacks.push.Goals as goal

pub invariant_of-self : goal.invariant_of-self
invariant_of-self g c = keeps c.self.inside.cells c.push.new.cells c.self.inside.own c.self.inside.parked.items c.self.invariant c.push.ensures.others c.push.ensures.used

pub returns-clause-pushed : goal.returns-clause-pushed
returns-clause-pushed g c = on_ok_weaker c.push.result (λ d. view_own c.self.inside.cells c.push.new.cells c.self.inside.own c.self.inside.parked.items c.self.invariant c.push.ensures.others c.args.self.now c.self.view_is (λ xs. c.args.value ∷ xs) d) c.push.ensures.pushed

pub returns-clause-frozen : goal.returns-clause-frozen
returns-clause-frozen g c = others_stay c.self.inside.cells c.push.new.cells c.self.inside.own c.self.inside.parked.items c.self.invariant c.push.ensures.others c.args.self.now c.self.view_is
