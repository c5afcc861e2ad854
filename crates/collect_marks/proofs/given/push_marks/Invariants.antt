use Rattle.std.proofs.Common.{◌≡◌, ◌++◌, drop}
use Rattle.std.specs.List.{filter}
use Rattle.collect_marks.specs.Given.{is_mark_value}
use Rattle.collect_marks.proofs.given.push_marks.Given as goal

abbrev pub invariant-loop-v : goal.invariant-loop-v
invariant-loop-v l = l.marks.items ++ filter (is_mark_value l.heap) (drop l.v-index l.values) ≡ l.initial.marks.items ++ filter (is_mark_value l.heap) l.values
