use Rattle.std.proofs.Common.{◌<◌, length, arith}
use Rattle.std.proofs.lemmas.List.{take_more}
use Rattle.std.proofs.lemmas.Grind.{common_steps}
use Rattle.param_rows.proofs.numbering.push_number.Goals as goal

pub loop-digit-preserved : goal.loop-digit-preserved
loop-digit-preserved c =
    let pushed = c.in_ok-push.ensures.items in
    let lt : c.loop-digit.digit-index < length c.as_bytes-digit-items.result.now = omega arith in
    grind (arith, common_steps, pushed, c.loop-digit.invariant, take_more c.as_bytes-digit-items.result.now c.loop-digit.digit-index 0 lt)
