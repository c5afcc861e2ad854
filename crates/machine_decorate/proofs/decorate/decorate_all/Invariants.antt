use Rattle.std.proofs.Common.{◌≡◌, ◌≤◌, length, take}
use Rattle.std.specs.Prelude.{reverse}
use Rattle.machine_decorate.specs.Decorations.{all_told}
use Rattle.machine_decorate.proofs.decorate.decorate_all.Given as goal

abbrev pub invariant-down : goal.invariant-down
invariant-down l = (l.at ≤ length l.ds) × (all_told (reverse (take l.at l.ds)) l.v l.heap ≡ all_told (reverse l.ds) l.fn.v l.fn.heap)

abbrev pub decreases-down : goal.decreases-down
decreases-down l = l.at
