use Rattle.std.proofs.Common.{◌≡◌, map, take}
use Rattle.collect_rows.specs.Rows.{mark_of}
use Rattle.collect_rows.proofs.lists.marks_of.Given as goal

abbrev pub invariant-loop-one : goal.invariant-loop-one
invariant-loop-one l = l.marks.items ≡ map (mark_of l.heap l.names) (take l.one-index l.parametrized)
