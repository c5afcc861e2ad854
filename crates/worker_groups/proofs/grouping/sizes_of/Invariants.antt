use Rattle.std.proofs.Common.{◌≡◌, length, map, take}
use Rattle.worker_groups.proofs.grouping.sizes_of.Given as goal

abbrev pub invariant-loop-group : goal.invariant-loop-group
invariant-loop-group l = l.sizes.items ≡ map (λ group. length group) (take l.group-index l.groups)
