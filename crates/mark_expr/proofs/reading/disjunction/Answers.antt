use Rattle.mark_expr.proofs.Rows.{or_view}
use Rattle.mark_expr.proofs.reading.disjunction.Goals as goal

pub returns : goal.returns
returns c = or_view c.args.first c.args.more
