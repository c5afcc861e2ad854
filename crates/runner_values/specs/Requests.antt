-- What becomes of a `request`: it is closed, and its finalizers are taken, the latest first (pytest's reference, `FixtureRequest`). Another
-- value is none: it stays as it is, and has no finalizers.
use Rattle.std.specs.Prelude.{ℕ, ◌-◌, true, List, [], length, slice_get, remove, Option, Some, None}
use Rattle.py_values.specs.Changes.{changed}
use Rattle.py_values.specs.declared.object.Obj.{Obj}
use Rattle.py_values.specs.declared.object.Obj.TheVariants as obj
use Rattle.py_values.specs.declared.object.RequestObj.{RequestObj}
use Rattle.py_values.specs.declared.value.Value.{Value}
use Rattle.py_values.specs.declared.value.Value.TheVariants as val

-- an object with another request in its place, where it is one
abbrev pub with_request : (RequestObj → RequestObj) → Obj → Obj
with_request f (obj.Request r) = obj.Request (f r)
with_request f (obj.Text x) = obj.Text x
with_request f (obj.List x) = obj.List x
with_request f (obj.Tuple x) = obj.Tuple x
with_request f (obj.Dict x) = obj.Dict x
with_request f (obj.Range x) = obj.Range x
with_request f (obj.Function x) = obj.Function x
with_request f (obj.Method x) = obj.Method x
with_request f (obj.Builtin x) = obj.Builtin x
with_request f (obj.Class x) = obj.Class x
with_request f (obj.Instance x) = obj.Instance x
with_request f (obj.Exception x) = obj.Exception x
with_request f (obj.Module x) = obj.Module x
with_request f (obj.Fixture x) = obj.Fixture x
with_request f obj.MarkMaker = obj.MarkMaker
with_request f (obj.Mark x) = obj.Mark x
with_request f (obj.Hook x) = obj.Hook x
with_request f (obj.Param x) = obj.Param x
with_request f (obj.Raises x) = obj.Raises x
with_request f (obj.Info x) = obj.Info x
with_request f (obj.Item x) = obj.Item x

-- the heap with a value's request changed, where it is one
abbrev pub request_changed : (RequestObj → RequestObj) → Value → List Obj → List Obj
request_changed f (val.Ref id) heap = changed (with_request f) id.at heap (slice_get heap id.at)
request_changed f val.None heap = heap
request_changed f (val.Bool b) heap = heap
request_changed f (val.Int n) heap = heap

-- A REQUEST IS CLOSED: every later `addfinalizer` on it raises
abbrev pub closing : RequestObj → RequestObj
closing r = record r { closed = true }

abbrev pub request_closed : Value → List Obj → List Obj
request_closed request heap = request_changed closing request heap

-- the finalizers of a request, in the order in which they were added
abbrev pub finalizers_in : Option Obj → List Value
finalizers_in (Some (obj.Request r)) = r.finalizers
finalizers_in (Some (obj.Text x)) = []
finalizers_in (Some (obj.List x)) = []
finalizers_in (Some (obj.Tuple x)) = []
finalizers_in (Some (obj.Dict x)) = []
finalizers_in (Some (obj.Range x)) = []
finalizers_in (Some (obj.Function x)) = []
finalizers_in (Some (obj.Method x)) = []
finalizers_in (Some (obj.Builtin x)) = []
finalizers_in (Some (obj.Class x)) = []
finalizers_in (Some (obj.Instance x)) = []
finalizers_in (Some (obj.Exception x)) = []
finalizers_in (Some (obj.Module x)) = []
finalizers_in (Some (obj.Fixture x)) = []
finalizers_in (Some obj.MarkMaker) = []
finalizers_in (Some (obj.Mark x)) = []
finalizers_in (Some (obj.Hook x)) = []
finalizers_in (Some (obj.Param x)) = []
finalizers_in (Some (obj.Raises x)) = []
finalizers_in (Some (obj.Info x)) = []
finalizers_in (Some (obj.Item x)) = []
finalizers_in None = []

abbrev pub finalizers_of : Value → List Obj → List Value
finalizers_of (val.Ref id) heap = finalizers_in (slice_get heap id.at)
finalizers_of val.None heap = []
finalizers_of (val.Bool b) heap = []
finalizers_of (val.Int n) heap = []

-- the latest of some finalizers, and those before it
abbrev pub latest_finalizer : List Value → Option Value
latest_finalizer fs = slice_get fs (length fs - 1)

abbrev pub earlier_finalizers : List Value → List Value
earlier_finalizers fs = remove fs (length fs - 1)

abbrev pub without_latest : RequestObj → RequestObj
without_latest r = record r { finalizers = earlier_finalizers r.finalizers }

-- ITS LATEST FINALIZER, and the heap without it
abbrev pub finalizer_taken : Value → List Obj → Option Value × List Obj
finalizer_taken request heap = (latest_finalizer (finalizers_of request heap), request_changed without_latest request heap)
