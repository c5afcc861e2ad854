use Rattle.std.proofs.Common.{◌∙◌, ap}
use Rattle.machine_state.specs.Frames.{world_of}
use Rattle.lower_law.specs.py_world.Resuming.{abandon_of}
use Rattle.py_machine.proofs.Seen.{abandon_kept, abandon_told}
use Rattle.py_machine.proofs.world.abandon.Goals as goal

pub invariant_of-world : goal.invariant_of-world
invariant_of-world c = abandon_kept c.spend-number.result (world_of c.world.inside.machine) (world_of c.abandon.new.m) c.abandon.ensures c.world.invariant

pub returns : goal.returns
returns c =
    rw (← c.spend-number.ensures) (abandon_told c.spend-number.result (world_of c.world.inside.machine) (world_of c.abandon.new.m) c.abandon.ensures
    ∙ ap (abandon_of c.spend-number.result) c.world.view_is)
