use Rattle.pytest_core.proofs.Asked.{expression_said}
use Rattle.pytest_core.proofs.request.expression_request.Goals as goal

pub returns : goal.returns
returns c =
    expression_said c.args.fault (c.in_ok-refuse_expression.field-0.0.items, c.in_ok-refuse_expression.field-0.1) (cc) c.in_ok-refuse_expression.ensures.response
