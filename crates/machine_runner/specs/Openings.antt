-- What begins where the runner begins a value.
use Rattle.std.specs.Prelude.{List, Ok}
use Rattle.run_tree.specs.Todo.{Done}
use Rattle.py_values.specs.declared.value.Value.{Value}
use Rattle.lower_law.specs.py_world.Calls.{entered}
use Rattle.lower_law.specs.py_world.Outcome.{raised, call_end}
use Rattle.lower_law.specs.py_world.Runs.{begun_by_runner}
use Rattle.lower_law.specs.py_world.Site.{no_call}
use Rattle.lower_law.specs.core_meaning.Meaning.{core}
use Rattle.lower_law.specs.core_meaning.Statements.{entry}
use Rattle.machine_state.specs.Places.{CoreRest, CoreState}
use Rattle.machine_runner.specs.declared.openings.Opening.{Opening}
use Rattle.machine_runner.specs.declared.openings.Opening.TheVariants.{Body, Refused, Call}

-- what is to be done then
abbrev pub opening_rest : Opening → Value → List Value → CoreState → CoreRest
opening_rest (Body code names) f args s = entered entry code (Ok names) no_call s (λ o. Done (call_end s o))
opening_rest (Refused x) f args s = Done (raised x.raise x.trace s)
opening_rest Call f args s = begun_by_runner core f args s
