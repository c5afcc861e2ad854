use Rattle.std.proofs.Common.{append_assoc}
use Rattle.report_blocks.specs.Blocks.{collect_block}
use Rattle.report_blocks.proofs.section.push_collect_block.Goals as goal

pub returns-in_ok-push_collect_captured-in-Short : goal.returns-in_ok-push_collect_captured-in-Short
unfolding collect_block
returns-in_ok-push_collect_captured-in-Short c =
    rw (c.in-Short.is, c.in_ok-push_collect_captured-in-Short.ensures, c.in_ok-push_told-in-Short.ensures, c.in_ok-push_title-in-Short.ensures, c.as_str.ensures.value, c.in_ok-title-in-Short.ensures, c.text.ensures) (simp append_assoc)
