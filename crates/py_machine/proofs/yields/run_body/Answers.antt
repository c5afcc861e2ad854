use Rattle.std.proofs.Common.{◌∙◌, refl}
use Rattle.machine_state.specs.Frames.{machine_rest, state_of, todo}
use Rattle.machine_state.specs.Places.{CoreOutcome}
use Rattle.machine_stmt.specs.Stops.{stopped}
use Rattle.std.proofs.Common.{None, Ok}
use Rattle.lower_law.specs.py_world.Calls.{entered}
use Rattle.lower_law.specs.py_world.Outcome.{call_end}
use Rattle.lower_law.specs.core_meaning.Statements.{entry}
use Rattle.machine_state.specs.Frames.{outer_of}
use Rattle.py_machine.proofs.Loading.{runs_on}
use Rattle.py_machine.proofs.Resumed.{body_enters}
use Rattle.py_machine.proofs.yields.run_body.Goals as goal

pub call_fitting-requires : goal.call_fitting-requires
call_fitting-requires c = rw c.requires (refl, λ h. refl)

pub returns : goal.returns
returns c =
    let m = c.args.m.now in
    let m1 = c.call_fitting.new.m in
    body_enters m.stack.own m.here m.left (state_of m) c.args.code c.args.names c.requires
    ∙ runs_on m.left m1.left (todo c.in_ok-doing.doing m1) (entered entry c.args.code (Ok c.args.names) (record { trace = outer_of m.stack.own; depth = 0; handling = None }) (state_of m) (λ (o : CoreOutcome). machine_rest m (call_end (state_of m) o)))
    (stopped c.in_ok-stop.stop c.run.new.m) c.call_fitting.ensures.left c.in_ok-doing.ensures.next c.in_ok-stop.ensures
