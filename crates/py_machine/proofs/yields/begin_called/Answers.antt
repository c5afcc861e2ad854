use Rattle.std.proofs.Common.{◌≡◌, None, Some}
use Rattle.std.proofs.lemmas.Result.{IfOk-weaker}
use Rattle.run_tree.specs.Todo.{Done}
use Rattle.lower_law.specs.py_world.Arguments.{positional_arguments}
use Rattle.lower_law.specs.py_world.Calls.{invoke}
use Rattle.lower_law.specs.py_world.Outcome.{call_end, raised}
use Rattle.lower_law.specs.py_world.Resuming.{begun_by, begun_over}
use Rattle.lower_law.specs.py_world.Runs.{ended_by, start}
use Rattle.lower_law.specs.py_world.Site.{no_call}
use Rattle.lower_law.specs.core_meaning.Statements.{entry}
use Rattle.machine_state.specs.Places.{CoreOutcome, ends}
use Rattle.machine_state.specs.Frames.{state_of, world_of}
use Rattle.py_machine.specs.declared.resuming.Begun.{Begun}
use Rattle.machine_runner.specs.Begun.{Begins}
use Rattle.py_machine.specs.Yields.{told_begun}
use Rattle.py_machine.proofs.Resumed.{called_fits, called_misfits}
use Rattle.py_machine.proofs.yields.begin_called.Goals as goal

pub returns-in-None : goal.returns-in-None
returns-in-None c =
    let m = c.args.m.now in
    let s = state_of m in
    let w = world_of c.begin_call.new.m in
    let b : Begins None c.args.f c.args.args.now (start (world_of m)) = rw c.in-None.is at c.in_ok-misfit.ensures in
    IfOk-weaker c.begin_call.result
    (λ (x : Begun). begun_by c.args.budget (ends c.args.budget (invoke entry c.args.f (positional_arguments c.args.args.now) no_call s (λ (o : CoreOutcome). Done (call_end s o)))) ≡ (told_begun x, w)) _
    (λ x h. called_fits c.args.f c.args.args.now c.args.budget (world_of m) w s (told_begun x) c.requires.state b h)
    c.begin_call.ensures

pub returns-in-Some : goal.returns-in-Some
returns-in-Some c =
    let m = c.args.m.now in
    let s = state_of m in
    let x = c.in-Some.misfit in
    let w = world_of c.begin_refused.new.m in
    let b : Begins (Some x) c.args.f c.args.args.now (start (world_of m)) = rw c.in-Some.is at c.in_ok-misfit.ensures in
    IfOk-weaker c.begin_refused.result (λ (y : Begun). begun_over (ended_by (raised x.raise x.trace s) 0) ≡ (told_begun y, w)) _
    (λ y h. called_misfits c.args.f c.args.args.now c.args.budget (world_of m) w s (told_begun y) c.requires.state x b h)
    c.begin_refused.ensures
