use Rattle.std.proofs.Common.{◌∙◌, ap, refl, sym}
use Rattle.run_tree.specs.Todo.{Done}
use Rattle.lower_law.specs.py_world.Arguments.{Arguments}
use Rattle.lower_law.specs.py_world.Calls.{invoke}
use Rattle.lower_law.specs.py_world.Outcome.{call_end}
use Rattle.lower_law.specs.py_world.Site.{no_call}
use Rattle.lower_law.specs.core_meaning.Statements.{entry}
use Rattle.machine_state.specs.Places.{CoreOutcome, arguments_in, ends}
use Rattle.machine_state.specs.Frames.{state_of}
use Rattle.py_machine.proofs.Beginning.{runner_calls}
use Rattle.py_machine.proofs.calls.run_call.Goals as goal

pub invoke-requires : goal.invoke-requires
invoke-requires c = rw c.requires (refl, λ h. refl)

pub returns : goal.returns
returns c =
    let m = c.args.m.now in
    let goes = λ (x : Arguments). ends m.left (invoke entry c.args.f x no_call (state_of m) (λ (o : CoreOutcome). Done (call_end (state_of m) o))) in
    ap goes (sym c.in_ok-args.ensures)
    ∙ (runner_calls m.stack.own m.here m.left (state_of m) c.args.f (arguments_in c.in_ok-args.args) c.requires ∙ (c.in_ok-turned.ensures.next ∙ c.in_ok-stop.ensures))
