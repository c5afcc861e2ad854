use Rattle.std.proofs.Common.{◌≡◌, ◌++◌, length}
use Rattle.std.specs.List.{slice_split}
use Rattle.collect_marks.specs.Names.{parts_path}
use Rattle.collect_marks.proofs.names.push_path.Given as goal

abbrev pub invariant-loop-at : goal.invariant-loop-at
invariant-loop-at l = l.names.items ++ slice_split parts_path l.rest ≡ l.initial.names.items ++ slice_split parts_path l.path

abbrev pub decreases-loop-at : goal.decreases-loop-at
decreases-loop-at l = length l.rest
