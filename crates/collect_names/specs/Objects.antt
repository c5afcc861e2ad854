-- What the value of a name is.
use Rattle.std.specs.Prelude.{ℕ, Bool, true, false, not, ◌&&◌, List, [], Option, Some, None, codes, is_some, slice_get}
use Rattle.py_kinds.specs.Classes.{is_exc_class}
use Rattle.py_values.specs.Names.{find_name}
use Rattle.py_values.specs.declared.class.ClassForm.{ClassForm}
use Rattle.py_values.specs.declared.class.ClassForm.TheVariants as form
use Rattle.py_values.specs.declared.object.ClassObj.{ClassObj}
use Rattle.py_values.specs.declared.object.FunctionObj.{FunctionObj}
use Rattle.py_values.specs.declared.object.Obj.{Obj}
use Rattle.py_values.specs.declared.object.Obj.TheVariants as obj
use Rattle.py_values.specs.declared.value.Value.{Value}
use Rattle.py_values.specs.declared.value.Value.TheVariants as val

-- the object of a value; None, booleans and numbers have none
abbrev pub object_in : List Obj → Value → Option Obj
object_in heap (val.Ref id) = slice_get heap id.at
object_in heap val.None = None
object_in heap (val.Bool b) = None
object_in heap (val.Int n) = None

-- the function that an object is
abbrev pub function_at : Option Obj → Option FunctionObj
function_at (Some (obj.Function x)) = Some x
function_at (Some (obj.Text x)) = None
function_at (Some (obj.List x)) = None
function_at (Some (obj.Tuple x)) = None
function_at (Some (obj.Dict x)) = None
function_at (Some (obj.Range x)) = None
function_at (Some (obj.Method x)) = None
function_at (Some (obj.Builtin x)) = None
function_at (Some (obj.Class x)) = None
function_at (Some (obj.Instance x)) = None
function_at (Some (obj.Exception x)) = None
function_at (Some (obj.Module x)) = None
function_at (Some (obj.Fixture x)) = None
function_at (Some obj.MarkMaker) = None
function_at (Some (obj.Mark x)) = None
function_at (Some (obj.Hook x)) = None
function_at (Some (obj.Param x)) = None
function_at (Some (obj.Request x)) = None
function_at (Some (obj.Raises x)) = None
function_at (Some (obj.Info x)) = None
function_at (Some (obj.Item x)) = None
function_at None = None

-- the class that an object is
abbrev pub class_at : Option Obj → Option ClassObj
class_at (Some (obj.Class c)) = Some c
class_at (Some (obj.Text x)) = None
class_at (Some (obj.List x)) = None
class_at (Some (obj.Tuple x)) = None
class_at (Some (obj.Dict x)) = None
class_at (Some (obj.Range x)) = None
class_at (Some (obj.Function x)) = None
class_at (Some (obj.Method x)) = None
class_at (Some (obj.Builtin x)) = None
class_at (Some (obj.Instance x)) = None
class_at (Some (obj.Exception x)) = None
class_at (Some (obj.Module x)) = None
class_at (Some (obj.Fixture x)) = None
class_at (Some obj.MarkMaker) = None
class_at (Some (obj.Mark x)) = None
class_at (Some (obj.Hook x)) = None
class_at (Some (obj.Param x)) = None
class_at (Some (obj.Request x)) = None
class_at (Some (obj.Raises x)) = None
class_at (Some (obj.Info x)) = None
class_at (Some (obj.Item x)) = None
class_at None = None

-- a class that a source defines
abbrev pub is_source : ClassForm → Bool
is_source form.Source = true
is_source (form.Exception c) = false
is_source (form.Kind b) = false

-- a class of a source that is no class of exceptions and has no `__init__` of its own
abbrev pub holds_tests : List Obj → Value → Option ClassObj → Bool
holds_tests heap v (Some c) = is_source c.form && (not (is_exc_class heap v) && not (is_some (find_name (codes "__init__") c.names)))
holds_tests heap v None = false

-- the names of a class
abbrev pub names_of_class : Option ClassObj → List (List ℕ × Value)
names_of_class (Some c) = c.names
names_of_class None = []
