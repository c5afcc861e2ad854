use Rattle.std.proofs.Common.{◌≡◌, ◌+◌, ◌*◌, length}
use Rattle.parsing.specs.Reading.{chain}
use Rattle.mark_expr.specs.Expression.{Conjunction, Disjunction, joined_left, view}
use Rattle.mark_expr.specs.Grammar.{has_kind, not_at, and_at, or_at}
use Rattle.mark_expr.proofs.reading.+expr.Given as goal

abbrev pub decreases-and_expr : goal.decreases-and_expr
decreases-and_expr l = 4 * l.levels + 1

abbrev pub decreases-not_expr : goal.decreases-not_expr
decreases-not_expr l = 4 * l.levels

abbrev pub decreases-or_expr : goal.decreases-or_expr
decreases-or_expr l = 4 * l.levels + 2

abbrev pub invariant-and_expr-loop-after : goal.invariant-and_expr-loop-after
invariant-and_expr-loop-after l = chain (has_kind 1) (not_at l.levels) Conjunction (joined_left Conjunction (view l.first.value) l.more.items, l.rest) ≡ and_at l.levels l.tokens

abbrev pub decreases-and_expr-loop-after : goal.decreases-and_expr-loop-after
decreases-and_expr-loop-after l = length l.rest

abbrev pub invariant-or_expr-loop-after : goal.invariant-or_expr-loop-after
invariant-or_expr-loop-after l = chain (has_kind 0) (and_at l.levels) Disjunction (joined_left Disjunction (view l.first.value) l.more.items, l.rest) ≡ or_at l.levels l.tokens

abbrev pub decreases-or_expr-loop-after : goal.decreases-or_expr-loop-after
decreases-or_expr-loop-after l = length l.rest

abbrev pub decreases-parens : goal.decreases-parens
decreases-parens l = 4 * l.levels + 3
