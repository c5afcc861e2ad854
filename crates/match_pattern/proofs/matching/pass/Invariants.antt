use Rattle.std.proofs.Common.{◌≡◌, ◌++◌, false, take, drop}
use Rattle.match_pattern.specs.Searching.{passed}
use Rattle.match_pattern.proofs.matching.pass.Given as goal

abbrev pub invariant-loop-at : goal.invariant-loop-at
invariant-loop-at l = take l.at l.marks ++ passed l.item l.inside (drop l.at l.marks) (drop l.at l.text) ≡ passed l.item false l.fn.marks l.text
