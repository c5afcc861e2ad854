-- The bases of classes.
use Rattle.std.specs.Prelude.{Bool, Option, Some, None, if◌then◌else◌}
use Rattle.py_values.specs.declared.value.ObjId.{ObjId}
use Rattle.py_values.specs.declared.value.Value.{Value}
use Rattle.py_values.specs.declared.value.Value.TheVariants as val

-- the base that a value is, given whether it is a class of exceptions
abbrev pub base_found : Bool → Value → Option ObjId
base_found is (val.Ref id) = if is then Some id else None
base_found is val.None = None
base_found is (val.Bool b) = None
base_found is (val.Int n) = None
