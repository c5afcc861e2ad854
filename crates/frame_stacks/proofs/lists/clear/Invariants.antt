use Rattle.std.proofs.Common.{IsSome, length}
use Rattle.link_cells.specs.Arena.{list_at_head}
use Rattle.frame_stacks.specs.Lists.{values_at, Others}
use Rattle.frame_stacks.proofs.lists.clear.Given as goal

abbrev pub invariant-down : goal.invariant-down
invariant-down g l = record { used : IsSome (list_at_head l.cells l.head); others : Others l.head l.fn.cells l.cells }

abbrev pub decreases-down : goal.decreases-down
decreases-down g l = length (values_at l.cells l.head)
