use Rattle.std.proofs.Common.{◌≡◌, drop}
use Rattle.mark_expr.specs.Matching.{all_true, any_true}
use Rattle.mark_expr.proofs.matching.+holds.Given as goal

abbrev pub invariant-all_hold-loop-expr : goal.invariant-all_hold-loop-expr
invariant-all_hold-loop-expr l = all_true l.how l.names (drop l.expr-index l.exprs) ≡ all_true l.how l.names l.exprs

abbrev pub invariant-any_holds-loop-expr : goal.invariant-any_holds-loop-expr
invariant-any_holds-loop-expr l = any_true l.how l.names (drop l.expr-index l.exprs) ≡ any_true l.how l.names l.exprs
