use Rattle.std.proofs.Common.{◌≡◌, ◌++◌, drop}
use Rattle.mark_expr.specs.Text.{tokens_from, tokens_of}
use Rattle.mark_expr.proofs.lexing.tokens.Given as goal

abbrev pub invariant-loop-at : goal.invariant-loop-at
invariant-loop-at l = l.tokens.items ++ tokens_from l.at l.inside (drop l.at l.chars) ≡ tokens_of l.chars
