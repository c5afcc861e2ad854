use Rattle.std.proofs.Common.{append_assoc}
use Rattle.report_text.specs.Summary.{interrupted_text}
use Rattle.report_text.proofs.ending.push_interrupted.Goals as goal

pub returns : goal.returns
unfolding interrupted_text
returns c = rw (c.in_ok-push_str-2.ensures.bytes, c.in_ok-push_counted.ensures, c.in_ok-push_str.ensures.bytes) (simp append_assoc)
