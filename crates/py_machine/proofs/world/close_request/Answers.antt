use Rattle.machine_state.specs.Frames.{world_of}
use Rattle.py_machine.proofs.Seen.{heap_sound}
use Rattle.py_machine.proofs.world.close_request.Goals as goal

pub invariant_of-world : goal.invariant_of-world
invariant_of-world c = heap_sound _ (world_of c.world.inside.machine) c.world.invariant
