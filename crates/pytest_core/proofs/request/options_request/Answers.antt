use Rattle.pytest_core.proofs.Asked.{run_asked}
use Rattle.pytest_core.proofs.request.options_request.Goals as goal

pub returns-in-Ok : goal.returns-in-Ok
returns-in-Ok c = run_asked c.args.options c.in-Ok.exprs c.in-Ok.ensures.exprs
