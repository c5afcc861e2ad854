use Rattle.std.proofs.Common.{◌≡◌, length}
use Rattle.std.specs.Str.{IsUtf8}
use Rattle.report_parts.specs.Blanks.{without_end}
use Rattle.report_parts.proofs.blanks.without_end.Given as goal

abbrev pub invariant-loop-before : goal.invariant-loop-before
invariant-loop-before l = record { utf8 : IsUtf8 l.rest; same : without_end l.rest ≡ without_end l.text }

abbrev pub decreases-loop-before : goal.decreases-loop-before
decreases-loop-before l = length l.rest
