use Rattle.machine_state.proofs.Kept.{kept_set}
use Rattle.machine_state.proofs.stack.ControlStack.abandon.Goals as goal

pub invariant_of-self : goal.invariant_of-self
invariant_of-self c = rw c.abandon.ensures (kept_set c.self.inside.stacks.frozen c.args.number c.self.invariant)
