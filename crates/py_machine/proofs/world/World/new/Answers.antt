use Rattle.std.proofs.Common.{ap, map}
use Rattle.machine_state.specs.Frames.{frozen_of}
use Rattle.machine_state.specs.Stacks.{StackView}
use Rattle.py_machine.proofs.Seen.{bare_sound}
use Rattle.py_machine.proofs.world.World.new.Goals as goal

pub invariant_of-result : goal.invariant_of-result
invariant_of-result c = bare_sound _ _ _ _ _ _ _ c.new.ensures c.new-3.ensures.items (ap (λ (x : StackView). map frozen_of x.frozen) c.in_ok-new.ensures)
