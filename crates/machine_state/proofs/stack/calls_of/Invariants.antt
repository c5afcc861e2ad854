use Rattle.std.proofs.Common.{◌≡◌, ◌≤◌, drop, length, map}
use Rattle.machine_state.specs.Frames.{outer_of}
use Rattle.machine_state.proofs.stack.calls_of.Given as goal

abbrev pub invariant-down : goal.invariant-down
invariant-down l = record { within : l.at ≤ length l.frames; calls : l.calls.items ≡ outer_of (map (λ f. f.now) (drop l.at l.frames)) }

abbrev pub decreases-down : goal.decreases-down
decreases-down l = l.at
