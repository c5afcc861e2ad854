use Rattle.std.proofs.Common.{sym, ◌∙◌}
use Rattle.mark_expr.specs.Expression.{view}
use Rattle.mark_expr.proofs.Meaning.{truth_is}
use Rattle.mark_expr.proofs.matching.matches.Goals as goal

pub returns : goal.returns
returns c = let d = truth_is c.args.how c.args.names.now (view c.args.expr.now) in (λ e. d.0 (sym c.holds.ensures ∙ e), λ h. c.holds.ensures ∙ d.1 h)
