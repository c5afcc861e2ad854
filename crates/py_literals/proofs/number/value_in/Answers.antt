use Rattle.std.proofs.Common.{◌∙◌, sym}
use Rattle.py_literals.proofs.Values.{past_range}
use Rattle.py_literals.proofs.number.value_in.Goals as goal

pub returns-in_err-value : goal.returns-in_err-value
returns-in_err-value c =
    c.from_residual.ensures
    ∙ sym (past_range c.args.base c.loop-ch.value c.digit_value.result _ c.loop-ch.ch-index c.ch-item.result c.args.digits.now c.requires c.loop-ch-test.true c.ch-item.is c.if-ch-eq95.false c.digit_value.ensures c.in_err-value.ensures c.loop-ch.invariant.same)
