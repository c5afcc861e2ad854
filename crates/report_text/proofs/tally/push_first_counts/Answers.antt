use Rattle.std.proofs.Common.{append_assoc}
use Rattle.report_text.specs.Summary.{first_pieces}
use Rattle.report_text.proofs.tally.push_first_counts.Goals as goal

pub returns : goal.returns
unfolding first_pieces
returns c =
    rw (c.in_ok-push_count-4.ensures, c.in_ok-push_count-3.ensures, c.in_ok-push_count-2.ensures, c.in_ok-push_count.ensures, c.times.ensures.count, c.times-2.ensures.count, c.times-3.ensures.count)
    (simp append_assoc)
