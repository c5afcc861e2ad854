use Rattle.std.proofs.Common.{Option}
use Rattle.std.specs.Prelude.{slice_get}
use Rattle.std.proofs.lemmas.Result.{IfOk-weaker}
use Rattle.lower_law.specs.py_world.Runs.{function_and, start}
use Rattle.machine_state.specs.Frames.{world_of}
use Rattle.machine_runner.specs.declared.misfit.Misfit.{Misfit}
use Rattle.machine_runner.specs.Begun.{Begins, FitsCall}
use Rattle.machine_runner.proofs.Beginning.{begins}
use Rattle.machine_runner.proofs.misfit.find_misfit.Goals as goal

pub returns-in-Ref : goal.returns-in-Ref
returns-in-Ref c =
    let m = c.args.m.now in
    IfOk-weaker c.object_misfit.result (λ (x : Option Misfit). FitsCall x (function_and m.heap c.args.args.now (slice_get m.heap c.in-Ref.id.at)) m.codes.items)
    (λ (x : Option Misfit). Begins x c.args.f c.args.args.now (start (world_of m)))
    (λ x h. rw c.in-Ref.is (begins x c.in-Ref.id c.args.args.now (start (world_of m)) h)) c.object_misfit.ensures
