use Rattle.std.proofs.Common.{sym, ap, ◌∙◌}
use Rattle.py_literals.proofs.Closing.{closes_at, ends_at, goes_on_at, runs_out_at}
use Rattle.py_literals.specs.Literals.{item_len}
use Rattle.py_literals.proofs.literal.closing_quote.Goals as goal

pub returns-then-closes-clause-value : goal.returns-then-closes-clause-value
returns-then-closes-clause-value c =
    sym (closes_at c.args.is_long c.args.quote c.loop-at.at c.args.text.now c.loop-at-test.true (rw c.behind-rest.ensures at (sym c.closes.ensures ∙ c.if-closes.true))) ∙ c.loop-at.invariant

pub returns-then-ends_line-clause-value : goal.returns-then-ends_line-clause-value
returns-then-ends_line-clause-value c =
    sym (ends_at c.args.is_long c.args.quote c.loop-at.at c.args.text.now c.loop-at-test.true (rw c.behind-rest.ensures at (sym c.closes.ensures ∙ c.if-closes.false)) (rw c.behind-rest.ensures at (sym c.ends_line.ensures ∙ c.if-ends_line.true))) ∙ c.loop-at.invariant

pub loop-at-preserved : goal.loop-at-preserved
loop-at-preserved c =
    sym (goes_on_at c.args.is_long c.args.quote c.loop-at.at c.item_len-at.result c.args.text.now c.loop-at-test.true (rw c.behind-rest.ensures at (sym c.closes.ensures ∙ c.if-closes.false)) (rw c.behind-rest.ensures at (sym c.ends_line.ensures ∙ c.if-ends_line.false)) c.item_len-at.ensures.low (c.item_len-at.ensures.value ∙ ap item_len c.behind-rest.ensures)) ∙ c.loop-at.invariant

pub returns-clause-value : goal.returns-clause-value
returns-clause-value c = sym (runs_out_at c.args.is_long c.args.quote c.loop-at.at c.args.text.now c.loop-at-test.false) ∙ c.loop-at.invariant
