use Rattle.session_rules.proofs.BuiltIns.{one_turn}
use Rattle.session_rules.proofs.law.the_built_in_has_one_turn.Goals as goal

pub returns : goal.returns
returns g c = λ rules phase item next has s. one_turn rules phase item next has s
