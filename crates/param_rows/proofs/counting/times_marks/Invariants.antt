use Rattle.std.proofs.Common.{◌≡◌, ◌*◌, ◌≤◌, min, map, length, drop}
use Rattle.param_rows.specs.Rows.{mark_choices, product}
use Rattle.param_rows.proofs.counting.times_marks.Given as goal

abbrev pub invariant-loop-mark : goal.invariant-loop-mark
invariant-loop-mark g l =
    (l.total ≤ 65537)
    × (min (l.total * length (product (map mark_choices (drop l.mark-index l.marks)))) 65537
    ≡ min (l.initial.total * length (product (map mark_choices l.marks))) 65537)
