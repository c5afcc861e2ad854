use Rattle.std.proofs.Common.{◌≡◌, None, Some}
use Rattle.std.proofs.lemmas.Result.{IfOk-weaker}
use Rattle.run_tree.specs.Todo.{Done}
use Rattle.lower_law.specs.py_world.declared.ended.Ended.{Ended}
use Rattle.lower_law.specs.py_world.Calls.{invoke}
use Rattle.lower_law.specs.py_world.Outcome.{call_end, raised}
use Rattle.lower_law.specs.py_world.Runs.{ended_by, start, told_by}
use Rattle.lower_law.specs.core_meaning.Statements.{entry}
use Rattle.lower_law.specs.py_world.Arguments.{positional_arguments}
use Rattle.lower_law.specs.py_world.Site.{no_call}
use Rattle.machine_state.specs.Places.{CoreOutcome, ends}
use Rattle.machine_state.specs.Frames.{state_of, world_of}
use Rattle.machine_runner.specs.Begun.{Begins}
use Rattle.py_machine.proofs.Beginning.{call_fits, call_misfits}
use Rattle.py_machine.proofs.calls.call.Goals as goal

pub returns-in-None : goal.returns-in-None
returns-in-None c =
    let b : Begins None c.args.f c.args.args.now (start (world_of c.args.m.now)) = rw c.in-None.is at (rw c.reset.ensures.world at c.in_ok-misfit.ensures) in
    let s = state_of c.reset.new.m in
    let w = world_of c.call_fitting.new.m in
    IfOk-weaker c.call_fitting.result
    (λ (e : Ended). told_by c.args.budget (ends c.args.budget (invoke entry c.args.f (positional_arguments c.args.args.now) no_call s (λ (o : CoreOutcome). Done (call_end s o)))) ≡ (e, w)) _
    (λ e h. call_fits c.args.f c.args.args.now c.args.budget (world_of c.args.m.now) w s e c.reset.ensures.state b h)
    c.call_fitting.ensures

pub returns-in-Some : goal.returns-in-Some
returns-in-Some c =
    let x = c.in-Some.misfit in
    let b : Begins (Some x) c.args.f c.args.args.now (start (world_of c.args.m.now)) = rw c.in-Some.is at (rw c.reset.ensures.world at c.in_ok-misfit.ensures) in
    let s = state_of c.reset.new.m in
    let w = world_of c.refuse.new.m in
    IfOk-weaker c.refuse.result (λ (e : Ended). ended_by (raised x.raise x.trace s) 0 ≡ (e, w)) _
    (λ e h. call_misfits x c.args.f c.args.args.now c.args.budget (world_of c.args.m.now) w s e c.reset.ensures.state b h)
    c.refuse.ensures
