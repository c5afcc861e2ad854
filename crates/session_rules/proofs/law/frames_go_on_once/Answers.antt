use Rattle.session_rules.proofs.Twins.{same_session}
use Rattle.session_rules.proofs.law.frames_go_on_once.Goals as goal

pub returns : goal.returns
returns g c = λ rules is_out keep others alike maxfail items world. same_session rules is_out keep others alike maxfail items world
