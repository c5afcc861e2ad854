use Rattle.setup_stack.proofs.Passing.{demand_alike}
use Rattle.setup_stack.proofs.law.the_rest_of_an_item_does_not_matter.Goals as goal

pub returns : goal.returns
returns g c = λ rules one other same depth d s. demand_alike rules one other same depth d s
