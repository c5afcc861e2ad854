use Rattle.std.proofs.Common.{append_assoc}
use Rattle.report_parts.proofs.Chars.{error_lines_by_chars}
use Rattle.report_parts.proofs.exception.push_error_lines.Goals as goal

pub returns : goal.returns
returns c = rw (error_lines_by_chars c.args.chars.now, c.in_ok-push_str-2.ensures.bytes, c.in_ok-push_error_chars.ensures, c.in_ok-push_str.ensures.bytes) (simp append_assoc)
