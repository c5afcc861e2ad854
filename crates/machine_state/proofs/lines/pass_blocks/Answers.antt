use Rattle.std.proofs.Common.{◌∙◌, ◌+◌, arith}
use Rattle.machine_state.proofs.LineStarts.{block_passed}
use Rattle.machine_state.proofs.lines.pass_blocks.Goals as goal

pub more-preserved : goal.more-preserved
more-preserved c =
    record {
      within = omega (arith, c.more-test.true, c.more.invariant.within);
      behind = block_passed c.args.bytes.now c.more.at (c.more.at + 240) c.more.left c.ends_in-count.result (omega arith) c.ends_in-count.ensures (omega (arith, c.if-count-left.false)) ∙ c.more.invariant.behind;
    }
