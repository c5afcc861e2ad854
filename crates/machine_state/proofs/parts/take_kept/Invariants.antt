use Rattle.std.proofs.Common.{◌≡◌, ◌++◌, length}
use Rattle.machine_state.specs.Kept.{frames_kept}
use Rattle.machine_state.proofs.parts.take_kept.Given as goal

abbrev pub invariant-down : goal.invariant-down
invariant-down l = record { frames : l.frames.items ++ frames_kept l.fn.line l.stacks.own ≡ frames_kept l.fn.line l.fn.stacks.own; frozen : l.stacks.frozen ≡ l.fn.stacks.frozen }

abbrev pub decreases-down : goal.decreases-down
decreases-down l = length l.stacks.own
