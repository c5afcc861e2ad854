-- The objects that the runner gives the language.
use Rattle.std.specs.Prelude.{◌≡◌, ℕ, false, List, [], ◌∷◌, ◌++◌, length, slice_get, Option, Some, None}
use Rattle.py_values.specs.Ends.{id_at}
use Rattle.py_values.specs.Raises.{text_raise, thrown}
use Rattle.py_kinds.specs.Classes.{root_of}
use Rattle.py_values.specs.declared.class.ClassForm.TheVariants as form
use Rattle.py_values.specs.declared.class.ClassRef.TheVariants as ref
use Rattle.py_values.specs.declared.object.Obj.{Obj}
use Rattle.py_values.specs.declared.object.Obj.TheVariants as obj
use Rattle.py_values.specs.declared.value.ObjId.{ObjId}
use Rattle.py_values.specs.declared.value.Value.{Value}
use Rattle.py_values.specs.declared.value.Value.TheVariants as val
use Rattle.runner_values.specs.declared.new.New.{New}
use Rattle.runner_values.specs.declared.new.New.TheVariants as new

-- an object more, and the heap behind it
abbrev pub added_object : Obj → List Obj → Value × List Obj
added_object o heap = (val.Ref (id_at (length heap)), heap ++ o ∷ [])

-- what asks for fixtures, without finalizers and open
abbrev pub open_request : Option (List ℕ) → List ℕ → Option Value → Obj
open_request name scope param = obj.Request (record { name = name; scope = scope; param = param; finalizers = []; closed = false })

abbrev pub test_item : List ℕ → List ℕ → Obj
test_item name node_id = obj.Item (record { name = name; node_id = node_id })

abbrev pub instance : ObjId → Obj
instance class = obj.Instance (record { class = class; names = [] })

abbrev pub IsSourceClass : Option Obj → Type 0
IsSourceClass (Some (obj.Class c)) = c.form ≡ form.Source
IsSourceClass (Some (obj.Text x)) = ⊥
IsSourceClass (Some (obj.List x)) = ⊥
IsSourceClass (Some (obj.Tuple x)) = ⊥
IsSourceClass (Some (obj.Dict x)) = ⊥
IsSourceClass (Some (obj.Range x)) = ⊥
IsSourceClass (Some (obj.Function x)) = ⊥
IsSourceClass (Some (obj.Method x)) = ⊥
IsSourceClass (Some (obj.Builtin x)) = ⊥
IsSourceClass (Some (obj.Instance x)) = ⊥
IsSourceClass (Some (obj.Exception x)) = ⊥
IsSourceClass (Some (obj.Module x)) = ⊥
IsSourceClass (Some (obj.Fixture x)) = ⊥
IsSourceClass (Some obj.MarkMaker) = ⊥
IsSourceClass (Some (obj.Mark x)) = ⊥
IsSourceClass (Some (obj.Hook x)) = ⊥
IsSourceClass (Some (obj.Param x)) = ⊥
IsSourceClass (Some (obj.Request x)) = ⊥
IsSourceClass (Some (obj.Raises x)) = ⊥
IsSourceClass (Some (obj.Info x)) = ⊥
IsSourceClass (Some (obj.Item x)) = ⊥
IsSourceClass None = ⊥

-- a class of the sources that is no class of exceptions
abbrev pub NamesClass : List Obj → Value → Type 0
NamesClass heap (val.Ref id) = IsSourceClass (slice_get heap id.at) × (root_of heap (ref.Defined id) ≡ None)
NamesClass heap val.None = ⊥
NamesClass heap (val.Bool b) = ⊥
NamesClass heap (val.Int n) = ⊥

-- an instance is of a class that is there
abbrev pub ClassIsThere : New → List Obj → Type 0
ClassIsThere (new.Instance class) heap = NamesClass heap class
ClassIsThere (new.Text t) heap = Unit {0}
ClassIsThere (new.List vs) heap = Unit {0}
ClassIsThere (new.Exception class text) heap = Unit {0}
ClassIsThere (new.Request name scope param) heap = Unit {0}
ClassIsThere (new.Item name id) heap = Unit {0}

abbrev pub IsInstance : Value → Value → List Obj → List Obj → Type 0
IsInstance class v old heap = (id : ObjId) → class ≡ val.Ref id → (v, heap) ≡ added_object (instance id) old

-- THE VALUE THAT IS GIVEN for a description, and the heap behind it
abbrev pub IsGiven : New → Value → List Obj → List Obj → Type 0
IsGiven (new.Text t) v old heap = (v, heap) ≡ added_object (obj.Text t) old
IsGiven (new.List vs) v old heap = (v, heap) ≡ added_object (obj.List vs.items) old
IsGiven (new.Exception class text) v old heap = (v, heap) ≡ thrown (text_raise class text) old
IsGiven (new.Request name scope param) v old heap = (v, heap) ≡ added_object (open_request name scope param) old
IsGiven (new.Item name id) v old heap = (v, heap) ≡ added_object (test_item name id) old
IsGiven (new.Instance class) v old heap = IsInstance class v old heap
