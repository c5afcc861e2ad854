use Rattle.std.proofs.Common.{◌≡◌, ◌++◌, drop, map}
use Rattle.collect_marks.specs.Names.{mark_name, marks_in}
use Rattle.collect_marks.proofs.names.push_marks.Given as goal

abbrev pub invariant-loop-v : goal.invariant-loop-v
invariant-loop-v l = l.names.items ++ map mark_name (marks_in l.heap (drop l.v-index l.marks)) ≡ l.initial.names.items ++ map mark_name (marks_in l.heap l.marks)
