use Rattle.run_tree.specs.Todo.{Done}
use Rattle.lower_law.specs.py_world.Calls.{invoke}
use Rattle.lower_law.specs.py_world.Outcome.{call_end}
use Rattle.lower_law.specs.core_meaning.Statements.{entry}
use Rattle.lower_law.specs.py_world.Arguments.{positional_arguments}
use Rattle.lower_law.specs.py_world.Site.{no_call}
use Rattle.machine_state.specs.Places.{CoreOutcome}
use Rattle.machine_state.specs.Frames.{state_of, world_of}
use Rattle.machine_stmt.specs.Stops.{stopped}
use Rattle.py_machine.proofs.Loading.{tells}
use Rattle.py_machine.proofs.calls.call_fitting.Goals as goal

pub returns : goal.returns
returns c =
    let m = c.args.m.now in
    tells c.args.budget m.left (invoke entry c.args.f (positional_arguments c.args.args.now) no_call (state_of m) (λ (o : CoreOutcome). Done (call_end (state_of m) o)))
    (stopped c.in_ok-stop.stop c.run_call.new.m) c.in_ok-ended.ended (world_of c.finish.new.m) c.requires.left c.in_ok-stop.ensures c.in_ok-ended.ensures
