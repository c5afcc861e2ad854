use Rattle.std.proofs.Common.{◌∙◌, ◌<◌, length, arith}
use Rattle.machine_state.proofs.LineStarts.{all_passed, byte_passed}
use Rattle.machine_state.proofs.lines.pass_ends.Goals as goal

pub more-preserved : goal.more-preserved
more-preserved c =
    let short : c.more.at < length c.args.bytes.now = omega (arith, c.if-at-bytes.false) in
    record {
      within = omega (arith, short);
      behind = byte_passed c.args.bytes.now c.more.at c.more.left c.left_behind-left.result short (omega (arith, c.more-test.true)) c.left_behind-left.ensures ∙ c.more.invariant.behind;
    }

pub returns-then-at-bytes-clause-behind : goal.returns-then-at-bytes-clause-behind
returns-then-at-bytes-clause-behind c = all_passed c.args.bytes.now c.more.at c.more.left (omega (arith, c.if-at-bytes.true)) ∙ c.more.invariant.behind
