use Rattle.std.proofs.Common.{arith}
use Rattle.number_calls.specs.Texts.{decimal}
use Rattle.number_calls.proofs.Summing.{decimal_stops}
use Rattle.number_calls.proofs.texts.decimal.Goals as goal

pub returns-in-None : goal.returns-in-None
returns-in-None c =
    decimal_stops c.loop-digit.n c.args.digits.now c.loop-digit.digit-index _ (decimal 0 c.args.digits.now) (omega arith)
    (rw c.digit-item.is at c.in-None.ensures) c.loop-digit.invariant.rest
