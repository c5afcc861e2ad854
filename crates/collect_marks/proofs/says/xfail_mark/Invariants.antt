use Rattle.std.proofs.Common.{◌≡◌, drop}
use Rattle.std.specs.Prelude.{find}
use Rattle.collect_marks.specs.Names.{marks_in}
use Rattle.collect_marks.specs.Says.{expects}
use Rattle.collect_marks.proofs.says.xfail_mark.Given as goal

abbrev pub invariant-loop-v : goal.invariant-loop-v
invariant-loop-v l = find (expects l.heap) (marks_in l.heap (drop l.v-index l.marks)) ≡ find (expects l.heap) (marks_in l.heap l.marks)
