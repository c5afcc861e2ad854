use Rattle.machine_state.specs.Frames.{world_of}
use Rattle.machine_stmt.specs.Stops.{stopped}
use Rattle.py_machine.specs.Yields.{sent_of, told_begun}
use Rattle.py_machine.proofs.Resumed.{frame_resumes}
use Rattle.py_machine.proofs.yields.resume.Goals as goal

pub returns : goal.returns
returns c =
    frame_resumes c.args.number (sent_of c.args.sent) c.args.budget (world_of c.args.m.now) (world_of c.tell.new.m) (stopped c.in_ok-stop.stop c.run_frame.new.m) (told_begun c.in_ok-begun.begun)
    c.in_ok-stop.ensures c.in_ok-begun.ensures c.requires
