-- How many elements an object has (Python library reference, `len`).
use Rattle.std.specs.Prelude.{ℕ, List, Option, Some, None, length, slice_get}
use Rattle.py_values.specs.declared.object.Obj.{Obj}
use Rattle.py_values.specs.declared.object.Obj.TheVariants as obj
use Rattle.py_values.specs.declared.value.Value.{Value}
use Rattle.py_values.specs.declared.value.Value.TheVariants as val

-- texts, lists, tuples, dicts and ranges have elements
abbrev pub obj_length : Option Obj → Option ℕ
obj_length (Some (obj.Text t)) = Some (length t)
obj_length (Some (obj.List vs)) = Some (length vs)
obj_length (Some (obj.Tuple vs)) = Some (length vs)
obj_length (Some (obj.Dict es)) = Some (length es)
obj_length (Some (obj.Range r)) = Some r.length
obj_length (Some (obj.Function x)) = None
obj_length (Some (obj.Method x)) = None
obj_length (Some (obj.Builtin x)) = None
obj_length (Some (obj.Class x)) = None
obj_length (Some (obj.Instance x)) = None
obj_length (Some (obj.Exception x)) = None
obj_length (Some (obj.Module x)) = None
obj_length (Some (obj.Fixture x)) = None
obj_length (Some obj.MarkMaker) = None
obj_length (Some (obj.Mark x)) = None
obj_length (Some (obj.Hook x)) = None
obj_length (Some (obj.Param x)) = None
obj_length (Some (obj.Request x)) = None
obj_length (Some (obj.Raises x)) = None
obj_length (Some (obj.Info x)) = None
obj_length (Some (obj.Item x)) = None
obj_length None = None

unfoldable pub length_of : List Obj → Value → Option ℕ
length_of heap (val.Ref id) = obj_length (slice_get heap id.at)
length_of heap val.None = None
length_of heap (val.Bool b) = None
length_of heap (val.Int z) = None
