use Rattle.core_rules.proofs.Yields.{begins_and_goes_on}
use Rattle.core_rules.proofs.a_body_goes_on_at_its_yield.Goals as goal

pub returns : goal.returns
returns c = begins_and_goes_on
