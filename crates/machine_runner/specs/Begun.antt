-- Whether a call by the runner fits its function.
use Rattle.std.specs.Prelude.{◌≡◌, List, [], ◌∷◌, Option, Some, None, Result, Ok, Err, slice_get}
use Rattle.py_core.specs.declared.stmt.CoreFn.{CoreFn}
use Rattle.py_values.specs.declared.end.Raise.{Raise}
use Rattle.py_values.specs.declared.object.FunctionObj.{FunctionObj}
use Rattle.py_values.specs.declared.value.Value.{Value}
use Rattle.lower_law.specs.py_world.declared.trace.TraceFrame.{TraceFrame}
use Rattle.run_tree.specs.Todo.{Done}
use Rattle.lower_law.specs.py_world.World.{FunctionCode, Locals}
use Rattle.lower_law.specs.py_world.Arguments.{positional_arguments}
use Rattle.lower_law.specs.py_world.Site.{frame, no_call}
use Rattle.lower_law.specs.py_world.Outcome.{raised, call_end}
use Rattle.lower_law.specs.py_world.Runs.{begun_by_runner}
use Rattle.lower_law.specs.core_meaning.Meaning.{core}
use Rattle.lower_law.specs.core_meaning.Statements.{entry}
use Rattle.machine_state.specs.Places.{CoreState}
use Rattle.lower_law.specs.py_world.Calls.{arguments_for, invoke}
use Rattle.machine_runner.specs.declared.misfit.Misfit.{Misfit}

-- there are local names, or this is raised, with this trace
abbrev pub FitsNames : Option Misfit → Result Locals Raise → List TraceFrame → Type 0
FitsNames None names at = (given : Locals) × (names ≡ Ok given)
FitsNames (Some x) names at = (names ≡ Err x.raise) × (x.trace ≡ at)

-- a function without code is not called
abbrev pub Fits : Option Misfit → Result Locals Raise → Option (FunctionCode CoreFn) → List TraceFrame → Type 0
Fits None names None at = Unit {0}
Fits (Some x) names None at = ⊥
Fits x names (Some code) at = FitsNames x names at

-- a call of a function, or of a method with its receiver, by the runner; all else is called as the language does
abbrev pub FitsCall : Option Misfit → Option (FunctionObj × List Value) → List (FunctionCode CoreFn) → Type 0
FitsCall x None codes = x ≡ None
FitsCall x (Some c) codes = Fits x (arguments_for c.0 (positional_arguments c.1)) (slice_get codes c.0.code) (frame c.0.path c.0.line c.0.name ∷ [])

-- how the call begins
abbrev pub Begins : Option Misfit → Value → List Value → CoreState → Type 0
Begins None f args s = begun_by_runner core f args s ≡ invoke entry f (positional_arguments args) no_call s (λ o. Done (call_end s o))
Begins (Some x) f args s = begun_by_runner core f args s ≡ Done (raised x.raise x.trace s)
