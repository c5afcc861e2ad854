use Rattle.setup_stack.proofs.Passing.{all_over, demand_over}
use Rattle.setup_stack.proofs.law.the_rest_of_a_state_stays.Goals as goal

pub returns : goal.returns
returns g c = record {
  demand = λ rules item depth d s t. demand_over rules s item depth d t;
  down = λ rules set s t. all_over rules s set t;
}
