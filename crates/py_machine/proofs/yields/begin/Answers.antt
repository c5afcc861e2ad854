use Rattle.std.proofs.Common.{◌≡◌, Ok}
use Rattle.std.proofs.lemmas.Result.{IfOk-weaker}
use Rattle.run_tree.specs.Todo.{Done}
use Rattle.lower_law.specs.py_world.Calls.{entered}
use Rattle.lower_law.specs.py_world.Outcome.{call_end, raised}
use Rattle.lower_law.specs.py_world.Resuming.{begun_by, begun_over, opened_by_runner}
use Rattle.lower_law.specs.py_world.Runs.{begun_by_runner, ended_by, start}
use Rattle.lower_law.specs.py_world.Site.{no_call}
use Rattle.lower_law.specs.core_meaning.Meaning.{core}
use Rattle.lower_law.specs.core_meaning.Statements.{entry}
use Rattle.machine_state.specs.Places.{CoreOutcome, ends}
use Rattle.machine_state.specs.Frames.{state_of, world_of}
use Rattle.machine_runner.specs.declared.openings.Opening.TheVariants.{Body, Refused, Call}
use Rattle.py_machine.specs.declared.resuming.Begun.{Begun}
use Rattle.machine_runner.specs.Openings.{opening_rest}
use Rattle.py_machine.specs.Yields.{told_begun}
use Rattle.py_machine.proofs.Resumed.{body_begins, body_refused, call_begins}
use Rattle.py_machine.proofs.yields.begin.Goals as goal

pub returns-in-Body : goal.returns-in-Body
returns-in-Body c =
    let w0 = world_of c.args.m.now in
    let s = state_of c.reset.new.m in
    let w = world_of c.begin_body.new.m in
    let x = Body c.in-Body.code c.in-Body.names in
    let opened : opened_by_runner core c.args.f c.args.args.now (start w0) ≡ opening_rest x c.args.f c.args.args.now (start w0) = rw c.in-Body.is at (rw c.reset.ensures.world at c.in_ok-opening.ensures) in
    IfOk-weaker c.begin_body.result (λ (y : Begun). begun_by c.args.budget (ends c.args.budget (entered entry c.in-Body.code (Ok c.in-Body.names) no_call s (λ (o : CoreOutcome). Done (call_end s o)))) ≡ (told_begun y, w)) _
    (λ y h. body_begins c.args.f c.args.args.now c.args.budget w0 w s (told_begun y) c.reset.ensures.state c.in-Body.code c.in-Body.names opened h)
    c.begin_body.ensures

pub returns-in-Refused : goal.returns-in-Refused
returns-in-Refused c =
    let w0 = world_of c.args.m.now in
    let s = state_of c.reset.new.m in
    let w = world_of c.begin_refused.new.m in
    let x = c.in-Refused.misfit in
    let opened : opened_by_runner core c.args.f c.args.args.now (start w0) ≡ opening_rest (Refused x) c.args.f c.args.args.now (start w0) = rw c.in-Refused.is at (rw c.reset.ensures.world at c.in_ok-opening.ensures) in
    IfOk-weaker c.begin_refused.result (λ (y : Begun). begun_over (ended_by (raised x.raise x.trace s) 0) ≡ (told_begun y, w)) _
    (λ y h. body_refused c.args.f c.args.args.now c.args.budget w0 w s (told_begun y) c.reset.ensures.state x opened h)
    c.begin_refused.ensures

pub returns-in-Call : goal.returns-in-Call
returns-in-Call c =
    let w0 = world_of c.args.m.now in
    let s = state_of c.reset.new.m in
    let w = world_of c.begin_called.new.m in
    let opened : opened_by_runner core c.args.f c.args.args.now (start w0) ≡ opening_rest Call c.args.f c.args.args.now (start w0) = rw c.in-Call.is at (rw c.reset.ensures.world at c.in_ok-opening.ensures) in
    IfOk-weaker c.begin_called.result (λ (y : Begun). begun_by c.args.budget (ends c.args.budget (begun_by_runner core c.args.f c.args.args.now s)) ≡ (told_begun y, w)) _
    (λ y h. call_begins c.args.f c.args.args.now c.args.budget w0 w s (told_begun y) c.reset.ensures.state opened h)
    c.begin_called.ensures
