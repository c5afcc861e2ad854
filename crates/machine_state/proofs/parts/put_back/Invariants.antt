use Rattle.std.proofs.Common.{◌≡◌, ◌++◌, length}
use Rattle.machine_state.proofs.parts.put_back.Given as goal

abbrev pub invariant-back : goal.invariant-back
invariant-back l = record { own : l.frames.items ++ l.stacks.own ≡ l.fn.frames.items ++ l.fn.stacks.own; frozen : l.stacks.frozen ≡ l.fn.stacks.frozen }

abbrev pub decreases-back : goal.decreases-back
decreases-back l = length l.frames.items
