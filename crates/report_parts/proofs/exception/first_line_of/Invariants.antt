use Rattle.std.proofs.Common.{◌≡◌, ℕ, ◌<◌, get_or, false}
use Rattle.report_parts.specs.Exceptions.{is_line_feed}
use Rattle.report_parts.proofs.exception.first_line_of.Given as goal

abbrev pub invariant-loop-end : goal.invariant-loop-end
invariant-loop-end l = (k : ℕ) → k < l.«end» → is_line_feed (get_or l.chars k 0) ≡ false
