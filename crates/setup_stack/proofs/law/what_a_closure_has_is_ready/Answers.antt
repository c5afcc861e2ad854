use Rattle.setup_stack.proofs.Ready.{closure_ready}
use Rattle.setup_stack.proofs.law.what_a_closure_has_is_ready.Goals as goal

pub returns : goal.returns
returns g c = λ rules table item ids scopes deep within s d m. closure_ready rules table item ids scopes deep within s d m
