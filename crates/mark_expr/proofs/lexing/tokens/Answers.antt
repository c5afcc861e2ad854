use Rattle.std.proofs.Common.{sym, ap, ◌∙◌, ◌+◌, drop}
use Rattle.mark_expr.proofs.TokenLaws.{tail_next, token_on, token_over, tokens_end}
use Rattle.mark_expr.proofs.lexing.tokens.Goals as goal
use Rattle.mark_expr.proofs.lexing.tokens.Goals.{then-begins+in_ok-kind+in_ok-push, else-begins}

pub loop-at-preserved : goal.loop-at-preserved
loop-at-preserved c = elim c.if-begins.branch [
  | then-begins+in_ok-kind+in_ok-push w ↦
      token_on c.loop-at.tokens.items _ _ c.args.chars.now c.loop-at.at c.index-chars-at.result c.loop-at.inside c.is_ident-inside.result w.in_ok-kind.kind c.loop-at-test.true c.index-chars-at.is (sym c.begins.ensures ∙ w.if-begins.true) c.is_ident-inside.ensures
      (w.in_ok-kind.ensures (drop (c.loop-at.at + 1) c.args.chars.now) (tail_next c.args.chars.now c.loop-at.at c.index-chars-at.result c.loop-at-test.true c.index-chars-at.is)) (ap (λ v. v.items) w.tokens-is ∙ w.in_ok-push.ensures.items) c.loop-at.invariant
  | else-begins w ↦
      token_over c.loop-at.tokens.items _ _ c.args.chars.now c.loop-at.at c.index-chars-at.result c.loop-at.inside c.is_ident-inside.result c.loop-at-test.true c.index-chars-at.is (sym c.begins.ensures ∙ w.if-begins.false) c.is_ident-inside.ensures
      (ap (λ v. v.items) w.tokens-is) c.loop-at.invariant
]

pub returns : goal.returns
returns c = tokens_end c.loop-at.tokens.items _ c.args.chars.now c.loop-at.at c.loop-at.inside c.loop-at-test.false c.loop-at.invariant
