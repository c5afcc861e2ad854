use Rattle.std.proofs.Common.{◌≡◌, drop}
use Rattle.mark_expr.specs.Matching.{has_part}
use Rattle.mark_expr.proofs.matching.contains.Given as goal

abbrev pub invariant-loop-start : goal.invariant-loop-start
invariant-loop-start l = has_part l.part (drop l.start l.whole) ≡ has_part l.part l.whole
