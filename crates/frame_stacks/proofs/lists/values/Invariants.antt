use Rattle.std.proofs.Common.{◌-◌, map, length}
use Rattle.frame_stacks.specs.Lists.{values_at}
use Rattle.frame_stacks.proofs.Listed.{Left}
use Rattle.frame_stacks.proofs.lists.values.Given as goal

abbrev pub invariant-loop-at : goal.invariant-loop-at
invariant-loop-at g l = Left l.cells l.head l.at (map (λ v. v.now) l.values.items)

abbrev pub decreases-loop-at : goal.decreases-loop-at
decreases-loop-at g l = length (values_at l.cells l.head) - length l.values.items
