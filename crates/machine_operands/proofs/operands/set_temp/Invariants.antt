use Rattle.std.proofs.Common.{◌≡◌, ◌+◌, ◌-◌, vec_len}
use Rattle.machine_state.specs.py_world.World.{set_at}
use Rattle.machine_operands.proofs.operands.set_temp.Given as goal

abbrev pub invariant-grow : goal.invariant-grow
invariant-grow l = set_at l.t l.v l.temps.items ≡ set_at l.t l.v l.fn.temps.items

abbrev pub decreases-grow : goal.decreases-grow
decreases-grow l = (l.t + 1) - vec_len l.temps
