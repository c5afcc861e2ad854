use Rattle.pytest_core.proofs.Asked.{fault_said}
use Rattle.pytest_core.proofs.request.fault_request.Goals as goal

pub returns : goal.returns
returns c =
    fault_said c.args.fault.now (c.in_ok-refuse_words.field-0.0.items, c.in_ok-refuse_words.field-0.1) (cc) c.in_ok-refuse_words.ensures.response
