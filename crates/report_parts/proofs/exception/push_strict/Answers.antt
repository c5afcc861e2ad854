use Rattle.std.proofs.Common.{append_assoc}
use Rattle.report_parts.specs.Exceptions.{strict_text}
use Rattle.report_parts.proofs.exception.push_strict.Goals as goal

pub returns : goal.returns
unfolding strict_text
returns c = rw (c.in_ok-push_reason.ensures, c.in_ok-push_str.ensures.bytes) (simp append_assoc)
