use Rattle.mark_expr.proofs.Rows.{and_view}
use Rattle.mark_expr.proofs.reading.conjunction.Goals as goal

pub returns : goal.returns
returns c = and_view c.args.first c.args.more
