use Rattle.std.proofs.Common.{◌≡◌, drop}
use Rattle.mark_expr.specs.Matching.{begins_with}
use Rattle.mark_expr.proofs.matching.begins_with.Given as goal

abbrev pub invariant-loop-at : goal.invariant-loop-at
invariant-loop-at l = begins_with (drop l.at l.part) (drop l.at l.whole) ≡ begins_with l.part l.whole
