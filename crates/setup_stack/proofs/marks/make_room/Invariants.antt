use Rattle.std.proofs.Common.{◌≡◌, ◌+◌, ◌-◌, ℕ, vec_len}
use Rattle.setup_stack.specs.Standing.{is_marked}
use Rattle.setup_stack.proofs.marks.make_room.Given as goal

abbrev pub invariant-room : goal.invariant-room
invariant-room l = (e : ℕ) → is_marked l.marks.items e ≡ is_marked l.fn.marks.items e

abbrev pub decreases-room : goal.decreases-room
decreases-room l = l.number + 1 - vec_len l.marks
