use Rattle.machine_state.specs.Frames.{world_of}
use Rattle.machine_stmt.specs.Stops.{stopped}
use Rattle.py_machine.specs.Yields.{sent_of}
use Rattle.py_machine.proofs.Resumed.{wakes}
use Rattle.lower_law.specs.py_world.Resuming.{abandon_of}
use Rattle.py_machine.proofs.yields.run_frame.Goals as goal

pub returns : goal.returns
returns c f is =
    wakes c.args.budget c.wake.new.m f c.end_of-end.result (sent_of c.args.sent) (abandon_of c.args.number (world_of c.args.m.now)) (stopped c.in_ok-stop.stop c.run.new.m)
    c.in_ok-wake.ensures.left (c.in_ok-wake.ensures.state f is) (λ o. c.in_ok-wake.ensures.rest f o is) c.end_of-end.ensures c.in_ok-stop.ensures
