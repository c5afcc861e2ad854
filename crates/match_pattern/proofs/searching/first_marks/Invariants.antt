use Rattle.std.proofs.Common.{◌≡◌, take}
use Rattle.match_pattern.specs.Searching.{first_marks}
use Rattle.match_pattern.proofs.searching.first_marks.Given as goal

abbrev pub invariant-loop-at : goal.invariant-loop-at
invariant-loop-at l = l.marks.items ≡ take l.at (first_marks l.at_start l.text)
