use Rattle.mark_expr.specs.Expression.{view}
use Rattle.selection.proofs.Selecting.{accepted}
use Rattle.selection.proofs.exprs.accepts.Goals as goal

pub returns-in-Some : goal.returns-in-Some
returns-in-Some c = rw c.in-Some.is (accepted c.args.how c.args.names.now (view c.in-Some.expr) c.matches.result c.matches.ensures)
