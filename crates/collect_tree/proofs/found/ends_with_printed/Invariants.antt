use Rattle.std.proofs.Common.{◌≡◌, ◌++◌, drop}
use Rattle.collect_tree.specs.Collection.{ends_with_printed}
use Rattle.collect_tree.proofs.found.ends_with_printed.Given as goal

abbrev pub invariant-loop-at : goal.invariant-loop-at
invariant-loop-at l = l.all.items ++ ends_with_printed l.left.items (drop l.at l.asked) ≡ ends_with_printed l.fn.ends.items l.asked
