use Rattle.std.proofs.Common.{append_assoc}
use Rattle.report_parts.specs.Exceptions.{strict_first}
use Rattle.report_parts.proofs.exception.push_strict_first.Goals as goal

pub returns : goal.returns
unfolding strict_first
returns c = rw (c.in_ok-push_first_reason.ensures, c.in_ok-push_str.ensures.bytes) (simp append_assoc)
