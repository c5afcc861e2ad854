use Rattle.std.proofs.Common.{◌≡◌, ◌++◌, take}
use Rattle.std.specs.List.{flat_map}
use Rattle.param_rows.proofs.grouping.push_grouped.Given as goal

abbrev pub invariant-loop-group : goal.invariant-loop-group
invariant-loop-group l = l.new.items ≡ l.initial.new.items ++ flat_map (λ group. group) (take l.group-index l.group-items)
