use Rattle.std.proofs.Common.{◌≡◌, ◌-◌, length}
use Rattle.frame_stacks.proofs.stacks.Stacks.forget.Given as goal

abbrev pub invariant-loop-number : goal.invariant-loop-number
invariant-loop-number g l = record { own : l.self.own ≡ l.fn.self.own; many : length l.self.frozen ≡ length l.fn.self.frozen }

abbrev pub decreases-loop-number : goal.decreases-loop-number
decreases-loop-number g l = length l.self.frozen - l.number
