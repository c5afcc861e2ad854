use Rattle.std.proofs.Common.{◌∙◌}
use Rattle.py_literals.proofs.Values.{past_code_points}
use Rattle.py_literals.proofs.escape.numbered_char.Goals as goal

pub returns-in_err-value : goal.returns-in_err-value
returns-in_err-value c =
    c.from_residual.ensures
    ∙ past_code_points c.args.base c.loop-ch.value c.digit_value.result _ c.loop-ch.ch-index c.ch-item.result c.args.digits.now c.requires c.loop-ch-test.true c.ch-item.is c.digit_value.ensures c.in_err-value.ensures c.loop-ch.invariant
