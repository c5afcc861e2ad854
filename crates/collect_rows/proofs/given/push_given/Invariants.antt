use Rattle.std.proofs.Common.{◌≡◌, ◌++◌, drop}
use Rattle.std.specs.List.{flat_map}
use Rattle.collect_rows.specs.Rows.{marks_given}
use Rattle.collect_rows.proofs.given.push_given.Given as goal

abbrev pub invariant-loop-def : goal.invariant-loop-def
invariant-loop-def l = l.marks.items ++ flat_map (marks_given l.definitions) (drop l.def-index l.pairs) ≡ l.initial.marks.items ++ flat_map (marks_given l.definitions) l.pairs
