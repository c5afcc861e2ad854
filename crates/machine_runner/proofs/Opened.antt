-- How the runner begins a value.
use Rattle.std.proofs.Common.{◌≡◌, List, Option, Some, None, false, refl}
use Rattle.py_core.specs.declared.stmt.CoreFn.{CoreFn}
use Rattle.py_values.specs.declared.object.FunctionObj.{FunctionObj}
use Rattle.py_values.specs.declared.value.Value.{Value}
use Rattle.lower_law.specs.py_world.Resuming.{function_opened}
use Rattle.lower_law.specs.py_world.Runs.{begun_by_runner}
use Rattle.lower_law.specs.py_world.World.{FunctionCode}
use Rattle.lower_law.specs.core_meaning.Meaning.{core}
use Rattle.machine_state.specs.Places.{CoreState}

-- a function that doesn't yield is called
pub called_plainly : (st : Option (FunctionCode CoreFn)) (x : FunctionObj) (all : List Value) (f : Value) (given : List Value) (s : CoreState) → x.yields ≡ false → function_opened core st x all f given s ≡ begun_by_runner core f given s
called_plainly None x all f given s h = refl
called_plainly (Some st) x all f given s h = rw h refl
