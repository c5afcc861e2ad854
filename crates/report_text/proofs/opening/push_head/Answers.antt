use Rattle.std.proofs.Common.{append_assoc}
use Rattle.report_text.specs.Head.{head_of}
use Rattle.report_text.proofs.opening.push_head.Goals as goal

pub returns : goal.returns
unfolding head_of
returns c = rw (c.in_ok-push_str.ensures.bytes, c.in_ok-push_workers.ensures, c.in_ok-push_collected.ensures, c.in_ok-push_title.ensures) (simp append_assoc)
