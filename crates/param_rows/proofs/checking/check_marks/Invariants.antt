use Rattle.std.proofs.Common.{◌≡◌, [], drop}
use Rattle.param_rows.specs.Faults.{marks_fault}
use Rattle.param_rows.proofs.checking.check_marks.Given as goal

abbrev pub invariant-loop-mark : goal.invariant-loop-mark
invariant-loop-mark g l = marks_fault l.known l.earlier.items (drop l.mark-index l.marks) ≡ marks_fault l.known [] l.marks
