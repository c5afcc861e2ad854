use Rattle.std.proofs.Common.{◌≡◌, ◌++◌, drop}
use Rattle.collect_tree.specs.Errors.{all_errors}
use Rattle.collect_tree.proofs.errors.all_errors.Given as goal

abbrev pub invariant-loop-at : goal.invariant-loop-at
invariant-loop-at l = l.all.items ++ all_errors l.walk l.world (drop l.at l.files) l.left.items (drop l.at l.faults) ≡ all_errors l.walk l.world l.files l.fn.ends.items l.faults
