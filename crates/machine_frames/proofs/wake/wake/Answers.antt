use Rattle.std.proofs.Common.{sym}
use Rattle.machine_state.specs.Frames.{world_of}
use Rattle.machine_state.specs.py_world.Resuming.{abandon_of}
use Rattle.machine_state.specs.py_world.World.{world_with_frozen}
use Rattle.machine_frames.proofs.Found.{woken_is, woken_rest, woken_some, woken_state}
use Rattle.machine_frames.proofs.wake.wake.Goals as goal

pub unwrap-locals-requires : goal.unwrap-locals-requires
unwrap-locals-requires c = woken_some c.in_ok-woken.woken c.args.number c.args.m.now.stack c.wake_frames.new.stack c.in_ok-woken.ensures c.requires

pub returns-clause-state : goal.returns-clause-state
returns-clause-state c f out =
    let m = c.args.m.now in
    let w = woken_is c.in_ok-woken.woken c.unwrap-locals.result c.args.number m.stack c.wake_frames.new.stack c.unwrap-locals.ensures c.in_ok-woken.ensures in
    woken_state c.unwrap-locals.result c.args.number m.stack c.wake_frames.new.stack w f out c.new.result.items c.new.ensures.items (λ fs. world_with_frozen fs (world_of m))

pub returns-clause-rest : goal.returns-clause-rest
returns-clause-rest c f o out =
    let m = c.args.m.now in
    let w = woken_is c.in_ok-woken.woken c.unwrap-locals.result c.args.number m.stack c.wake_frames.new.stack c.unwrap-locals.ensures c.in_ok-woken.ensures in
    woken_rest c.unwrap-locals.result c.args.number m.stack c.wake_frames.new.stack w f out o (abandon_of c.args.number (world_of m))
