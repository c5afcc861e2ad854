use Rattle.core_rules.proofs.Bindings.{fits_as_bound, fits_right, fits_wrong}
use Rattle.core_rules.proofs.calls_bind_their_arguments.Goals as goal

pub returns-clause-exact : goal.returns-clause-exact
returns-clause-exact c = fits_as_bound

pub returns-clause-right : goal.returns-clause-right
returns-clause-right c = fits_right

pub returns-clause-wrong : goal.returns-clause-wrong
returns-clause-wrong c = fits_wrong
