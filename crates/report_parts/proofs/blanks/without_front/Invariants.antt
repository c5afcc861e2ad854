use Rattle.std.proofs.Common.{◌≡◌, length}
use Rattle.std.specs.Str.{IsUtf8}
use Rattle.report_parts.specs.Blanks.{without_front}
use Rattle.report_parts.proofs.blanks.without_front.Given as goal

abbrev pub invariant-loop-behind : goal.invariant-loop-behind
invariant-loop-behind l = record { utf8 : IsUtf8 l.rest; same : without_front l.rest ≡ without_front l.text }

abbrev pub decreases-loop-behind : goal.decreases-loop-behind
decreases-loop-behind l = length l.rest
