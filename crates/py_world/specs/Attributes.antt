-- Attributes that are stored, deleted and read by a run (Language Reference, attribute references; assignment statements; the del
-- statement; the standard type hierarchy: modules, custom classes, class instances).
use Rattle.std.specs.Prelude.{ℕ, Bool, true, false, List, is_some, Option, Some, None, slice_get, if◌then◌else◌}
use Rattle.py_values.specs.Changes.{changed}
use Rattle.py_calls.specs.py_kinds.Kinds.{kind_name}
use Rattle.py_values.specs.Names.{bind_name, unbind_name}
use Rattle.py_values.specs.declared.end.Raise.{Raise}
use Rattle.py_values.specs.declared.object.ExceptionObj.{ExceptionObj}
use Rattle.py_values.specs.declared.object.Obj.{Obj}
use Rattle.py_values.specs.declared.object.Obj.TheVariants as obj
use Rattle.py_values.specs.declared.value.Value.{Value}
use Rattle.py_values.specs.declared.value.Value.TheVariants as val
use Rattle.py_calls.specs.py_items.Items.{object_at}
use Rattle.py_calls.specs.py_attributes.Attributes.{no_attribute, is_args, own_value, attribute_of}
use Rattle.py_world.specs.World.{Kinds, CallState, heap_of, with_heap}
use Rattle.py_world.specs.Site.{Site, trace_of}
use Rattle.py_world.specs.Outcome.{Outcome, Next, Denotation, made, on_value, raised_at}

-- modules, classes, instances and exceptions take names
abbrev pub takes_names : Option Obj → Bool
takes_names (Some (obj.Text x)) = false
takes_names (Some (obj.List x)) = false
takes_names (Some (obj.Tuple x)) = false
takes_names (Some (obj.Dict x)) = false
takes_names (Some (obj.Range x)) = false
takes_names (Some (obj.Function x)) = false
takes_names (Some (obj.Method x)) = false
takes_names (Some (obj.Builtin x)) = false
takes_names (Some (obj.Class x)) = true
takes_names (Some (obj.Instance x)) = true
takes_names (Some (obj.Exception x)) = true
takes_names (Some (obj.Module x)) = true
takes_names (Some (obj.Fixture x)) = false
takes_names (Some obj.MarkMaker) = false
takes_names (Some (obj.Mark x)) = false
takes_names (Some (obj.Hook x)) = false
takes_names (Some (obj.Param x)) = false
takes_names (Some (obj.Request x)) = false
takes_names (Some (obj.Raises x)) = false
takes_names (Some (obj.Info x)) = false
takes_names (Some (obj.Item x)) = false
takes_names None = false

-- an object with a name bound, and without one
abbrev pub exception_with : List ℕ → Value → ExceptionObj → ExceptionObj
exception_with name v x =
    if is_args name
    then record { class = x.class; args = Some v; names = x.names }
    else record { class = x.class; args = x.args; names = bind_name name v x.names }

abbrev pub exception_without : List ℕ → ExceptionObj → ExceptionObj
exception_without name x =
    if is_args name
    then record { class = x.class; args = None; names = x.names }
    else record { class = x.class; args = x.args; names = unbind_name name x.names }

abbrev pub with_attribute : List ℕ → Value → Obj → Obj
with_attribute name v (obj.Module m) = obj.Module (record { path = m.path; names = bind_name name v m.names })
with_attribute name v (obj.Class c) = obj.Class (record { path = c.path; name = c.name; line = c.line; form = c.form; base = c.base; marks = c.marks; names = bind_name name v c.names })
with_attribute name v (obj.Instance x) = obj.Instance (record { class = x.class; names = bind_name name v x.names })
with_attribute name v (obj.Exception x) = obj.Exception (exception_with name v x)
with_attribute name v (obj.Text x) = obj.Text x
with_attribute name v (obj.List x) = obj.List x
with_attribute name v (obj.Tuple x) = obj.Tuple x
with_attribute name v (obj.Dict x) = obj.Dict x
with_attribute name v (obj.Range x) = obj.Range x
with_attribute name v (obj.Function x) = obj.Function x
with_attribute name v (obj.Method x) = obj.Method x
with_attribute name v (obj.Builtin x) = obj.Builtin x
with_attribute name v (obj.Fixture x) = obj.Fixture x
with_attribute name v obj.MarkMaker = obj.MarkMaker
with_attribute name v (obj.Mark x) = obj.Mark x
with_attribute name v (obj.Hook x) = obj.Hook x
with_attribute name v (obj.Param x) = obj.Param x
with_attribute name v (obj.Request x) = obj.Request x
with_attribute name v (obj.Raises x) = obj.Raises x
with_attribute name v (obj.Info x) = obj.Info x
with_attribute name v (obj.Item x) = obj.Item x

abbrev pub without_attribute : List ℕ → Obj → Obj
without_attribute name (obj.Module m) = obj.Module (record { path = m.path; names = unbind_name name m.names })
without_attribute name (obj.Class c) = obj.Class (record { path = c.path; name = c.name; line = c.line; form = c.form; base = c.base; marks = c.marks; names = unbind_name name c.names })
without_attribute name (obj.Instance x) = obj.Instance (record { class = x.class; names = unbind_name name x.names })
without_attribute name (obj.Exception x) = obj.Exception (exception_without name x)
without_attribute name (obj.Text x) = obj.Text x
without_attribute name (obj.List x) = obj.List x
without_attribute name (obj.Tuple x) = obj.Tuple x
without_attribute name (obj.Dict x) = obj.Dict x
without_attribute name (obj.Range x) = obj.Range x
without_attribute name (obj.Function x) = obj.Function x
without_attribute name (obj.Method x) = obj.Method x
without_attribute name (obj.Builtin x) = obj.Builtin x
without_attribute name (obj.Fixture x) = obj.Fixture x
without_attribute name obj.MarkMaker = obj.MarkMaker
without_attribute name (obj.Mark x) = obj.Mark x
without_attribute name (obj.Hook x) = obj.Hook x
without_attribute name (obj.Param x) = obj.Param x
without_attribute name (obj.Request x) = obj.Request x
without_attribute name (obj.Raises x) = obj.Raises x
without_attribute name (obj.Info x) = obj.Info x
without_attribute name (obj.Item x) = obj.Item x

module _ {K : Kinds} where
  -- an object is changed, where it may be
  abbrev pub changed_or : Bool → (Obj → Obj) → Value → Raise → Site → CallState K → Outcome K
  changed_or true f (val.Ref id) none p s = Next (with_heap (changed f id.at (heap_of s) (slice_get (heap_of s) id.at)) s)
  changed_or true f val.None none p s = raised_at none p s
  changed_or true f (val.Bool b) none p s = raised_at none p s
  changed_or true f (val.Int n) none p s = raised_at none p s
  changed_or false f x none p s = raised_at none p s

  abbrev pub attribute_end : Value → List ℕ → Site → CallState K → Outcome K
  attribute_end x name p s = made (attribute_of (heap_of s) x name) (trace_of p) s

  -- AN ATTRIBUTE REFERENCE, which costs nothing
  abbrev pub attribute_part : Denotation K → List ℕ → Denotation K
  attribute_part e name p s k = e p s (λ o. on_value o k (λ x s. k (attribute_end x name p s)))

  -- the store and the deletion of an attribute, which cost nothing
  abbrev pub set_attribute : Value → List ℕ → Value → Denotation K
  set_attribute x name v p s k =
      k (changed_or (takes_names (object_at (heap_of s) x)) (with_attribute name v) x (no_attribute (kind_name (heap_of s) x) name) p s)

  abbrev pub unset_attribute : Value → List ℕ → Denotation K
  unset_attribute x name p s k =
      k (changed_or (is_some (own_value name (object_at (heap_of s) x))) (without_attribute name) x (no_attribute (kind_name (heap_of s) x) name) p s)
