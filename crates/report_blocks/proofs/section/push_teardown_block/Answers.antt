use Rattle.std.proofs.Common.{append_assoc}
use Rattle.report_blocks.specs.Blocks.{teardown_block, block_lines}
use Rattle.report_blocks.proofs.section.push_teardown_block.Goals as goal

pub returns-in_ok-push_teardown_details : goal.returns-in_ok-push_teardown_details
unfolding teardown_block block_lines
returns-in_ok-push_teardown_details c =
    rw (← c.if-is_raised.ensures, c.in_ok-push_teardown_details.ensures, c.in_ok-push_opening.ensures, c.as_str.ensures.value, c.in_ok-title.ensures, c.text.ensures) (simp append_assoc)
