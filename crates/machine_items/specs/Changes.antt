-- What a change of an attribute tells.
use Rattle.std.specs.Prelude.{Bool, true, false, List, Option, Some, None, slice_get}
use Rattle.py_values.specs.Changes.{changed}
use Rattle.py_values.specs.declared.end.Raise.{Raise}
use Rattle.py_values.specs.declared.object.Obj.{Obj}
use Rattle.py_values.specs.declared.value.Value.{Value}
use Rattle.py_values.specs.declared.value.Value.TheVariants as val

-- an object is changed where it may be; otherwise this is raised, and the heap stays
abbrev pub attribute_told : Bool → (Obj → Obj) → Value → Raise → List Obj → Option Raise × List Obj
attribute_told true f (val.Ref id) none heap = (None, changed f id.at heap (slice_get heap id.at))
attribute_told true f val.None none heap = (Some none, heap)
attribute_told true f (val.Bool b) none heap = (Some none, heap)
attribute_told true f (val.Int n) none heap = (Some none, heap)
attribute_told false f x none heap = (Some none, heap)
