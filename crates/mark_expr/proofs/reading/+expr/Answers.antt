use Rattle.std.proofs.Common.{sym, ◌∙◌}
use Rattle.std.proofs.lemmas.Result.{err_from_is_err_and}
use Rattle.mark_expr.specs.Expression.{Conjunction, Disjunction}
use Rattle.mark_expr.specs.Grammar.{has_kind, not_at, and_at}
use Rattle.parsing.proofs.Chain.{chain_goes_on}
use Rattle.mark_expr.proofs.Steps.{not_takes, and_takes, fails_on, and_next, or_next}
use Rattle.mark_expr.proofs.reading.+expr.Goals as goal

pub and_expr-returns-in_err-next : goal.and_expr-returns-in_err-next
and_expr-returns-in_err-next t c =
    let w = sym (chain_goes_on (has_kind 1) (not_at c.args.levels) Conjunction (not_takes c.args.levels) _ c.loop-after.rest.now c.in-Some.after.now c.in-Some.ensures) ∙ c.loop-after.invariant in
    let p = err_from_is_err_and c.from_residual-in_err-next.result c.from_residual-in_err-next.ensures.1 in
    rw (p.1, p.2) (fails_on c.in_err-next.field-0.0 _ _ _ c.in_err-next.ensures w)

pub and_expr-loop-after-preserved : goal.and_expr-loop-after-preserved
and_expr-loop-after-preserved t c =
    and_next c.args.levels _ c.loop-after.more.items c.push.new.self.items c.in_ok-next.next _ _ _ _ c.in_ok-push.ensures.items c.in-Some.ensures c.in_ok-next.ensures c.loop-after.invariant

pub or_expr-returns-in_err-next : goal.or_expr-returns-in_err-next
or_expr-returns-in_err-next t c =
    let w = sym (chain_goes_on (has_kind 0) (and_at c.args.levels) Disjunction (and_takes c.args.levels) _ c.loop-after.rest.now c.in-Some.after.now c.in-Some.ensures) ∙ c.loop-after.invariant in
    let p = err_from_is_err_and c.from_residual-in_err-next.result c.from_residual-in_err-next.ensures.1 in
    rw (p.1, p.2) (fails_on c.in_err-next.field-0.0 _ _ _ c.in_err-next.ensures w)

pub or_expr-loop-after-preserved : goal.or_expr-loop-after-preserved
or_expr-loop-after-preserved t c =
    or_next c.args.levels _ c.loop-after.more.items c.push.new.self.items c.in_ok-next.next _ _ _ _ c.in_ok-push.ensures.items c.in-Some.ensures c.in_ok-next.ensures c.loop-after.invariant
