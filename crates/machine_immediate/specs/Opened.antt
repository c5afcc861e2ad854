-- Functions of the sources that can be called from a place.
use Rattle.std.specs.Prelude.{◌≡◌, ℕ, true, false, List, Option, Some, None, nat_lt, slice_get}
use Rattle.py_values.specs.declared.object.FunctionObj.{FunctionObj}
use Rattle.py_values.specs.declared.object.Obj.{Obj}
use Rattle.py_values.specs.declared.value.Value.{Value}
use Rattle.py_values.specs.declared.value.Value.TheVariants as val
use Rattle.machine_state.specs.py_core.declared.stmt.CoreFn.{CoreFn}
use Rattle.machine_state.specs.py_world.World.{FunctionCode}
use Rattle.machine_state.specs.py_world.Calls.{function_of_object, most_open}
use Rattle.machine_state.specs.declared.machine.Machine.{Machine}
use Rattle.machine_state.specs.declared.place.Location.{Location}
use Rattle.machine_state.specs.Places.{depth_of}

-- the function that a value is
abbrev pub function_called_by : List Obj → Value → Option FunctionObj
function_called_by heap (val.Ref id) = function_of_object (slice_get heap id.at)
function_called_by heap val.None = None
function_called_by heap (val.Bool b) = None
function_called_by heap (val.Int n) = None

-- a value is this function with this code, which doesn't yield, and around its call from a place so many functions are open
pub record IsCallee (callee : Value) (f : FunctionObj) (code : FunctionCode CoreFn) (around : ℕ) (m : Machine) (here : Location) : Type 0 where
  pub called : function_called_by m.heap callee ≡ Some f
  pub coded : slice_get m.codes.items f.code ≡ Some code
  pub returns : f.yields ≡ false
  pub inside : around ≡ depth_of here
  pub room : nat_lt (depth_of here) most_open ≡ true
