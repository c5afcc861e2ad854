use Rattle.std.proofs.Common.{append_assoc}
use Rattle.report_text.specs.Conftest.{conftest_text}
use Rattle.report_text.proofs.conftest.push_conftest_fault.Goals as goal

pub returns : goal.returns
unfolding conftest_text
returns c = rw (c.in_ok-push_told.ensures, c.in_ok-writeln.ensures.bytes) (simp append_assoc)
