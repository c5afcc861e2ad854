-- How many functions are open around a call, and calls of functions of the sources.
use Rattle.std.specs.Prelude.{◌≡◌, ℕ, Option, Some, None, Result}
use Rattle.machine_state.specs.py_core.declared.stmt.CoreFn.{CoreFn}
use Rattle.py_values.specs.declared.end.Raise.{Raise}
use Rattle.machine_state.specs.py_world.World.{FunctionCode, Locals}
use Rattle.machine_state.specs.py_world.Site.{Around}
use Rattle.machine_state.specs.py_world.Outcome.{raised}
use Rattle.machine_state.specs.py_world.Calls.{entered}
use Rattle.machine_state.specs.core_meaning.Statements.{entry}
use Rattle.machine_state.specs.declared.machine.Machine.{Machine}
use Rattle.machine_state.specs.declared.machine.Origin.{Origin}
use Rattle.machine_state.specs.declared.machine.Origin.TheVariants as origin
use Rattle.machine_state.specs.declared.place.Location.{Location}
use Rattle.machine_state.specs.Places.{CoreRest, CoreState, CoreThen, depth_of}
use Rattle.machine_state.specs.Frames.{after_stack, handled_exception, machine_rest}

abbrev pub depth_by : Origin → Machine → ℕ
depth_by origin.Code m = depth_of m.here
depth_by origin.Runner m = 0

-- the runner calls where nothing is handled, and where what follows is the same wherever the machine is
abbrev pub Ready : Origin → Machine → Type 0
Ready origin.Code m = Unit {0}
Ready origin.Runner m = (handled_exception m.stack.own ≡ None) × ((h : Location) → after_stack m.stack.own h ≡ machine_rest m)

-- a call of a function of the sources by its code, where that is there, with its local names or what is raised in their place
abbrev pub code_called : Option (FunctionCode CoreFn) → Result Locals Raise → Raise → Around → CoreState → CoreThen → CoreRest
code_called None names none a s k = k (raised none a.trace s)
code_called (Some st) names none a s k = entered entry st names a s k
