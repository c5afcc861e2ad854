-- The text that a value is.
use Rattle.std.specs.Prelude.{ℕ, List, Option, Some, None, slice_get}
use Rattle.py_values.specs.declared.object.Obj.{Obj}
use Rattle.py_values.specs.declared.object.Obj.TheVariants as obj
use Rattle.py_values.specs.declared.value.Value.{Value}
use Rattle.py_values.specs.declared.value.Value.TheVariants as val

abbrev pub obj_text : Option Obj → Option (List ℕ)
obj_text (Some (obj.Text t)) = Some t
obj_text _ = None

-- the characters of a value, where it is a text
abbrev pub text_of : List Obj → Value → Option (List ℕ)
text_of heap (val.Ref id) = obj_text (slice_get heap id.at)
text_of heap val.None = None
text_of heap (val.Bool b) = None
text_of heap (val.Int z) = None
