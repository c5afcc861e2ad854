use Rattle.std.proofs.Common.{◌≡◌, drop}
use Rattle.std.specs.Prelude.{codes, find}
use Rattle.collect_marks.specs.Names.{marks_in}
use Rattle.collect_marks.specs.Says.{is_called}
use Rattle.collect_marks.proofs.says.skip_mark.Given as goal

abbrev pub invariant-loop-v : goal.invariant-loop-v
invariant-loop-v l = find (is_called (codes "skip")) (marks_in l.heap (drop l.v-index l.marks)) ≡ find (is_called (codes "skip")) (marks_in l.heap l.marks)
