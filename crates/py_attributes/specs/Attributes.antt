-- Attributes that are read (Language Reference, attribute references; the standard type hierarchy; Python library reference, string methods,
-- lists, tuples, mapping types; pytest's reference, `request`, `pytest.mark`, `ExceptionInfo`).
use Rattle.std.specs.Prelude.{ℕ, zero, suc, Bool, true, false, List, [], ◌++◌, length, Option, Some, None, codes, slice_get, if◌then◌else◌}
use Rattle.py_kinds.specs.Builtins.{class_place, base_place, method_in, text_methods, list_methods, tuple_methods, dict_methods, request_methods}
use Rattle.py_kinds.specs.Classes.{base_of, exc_base}
use Rattle.py_kinds.specs.Kinds.{kind_name}
use Rattle.py_values.specs.Names.{name_eq, find_name}
use Rattle.py_values.specs.Raises.{text_raise}
use Rattle.py_values.specs.declared.builtin.Builtin.{Builtin}
use Rattle.py_values.specs.declared.class.ClassRef.{ClassRef}
use Rattle.py_values.specs.declared.class.ClassRef.TheVariants as ref
use Rattle.py_values.specs.declared.class.ExcClass.{ExcClass}
use Rattle.py_values.specs.declared.class.ExcClass.TheVariants.{AttributeError}
use Rattle.py_values.specs.declared.end.Effect.{Effect}
use Rattle.py_values.specs.declared.end.Effect.TheVariants.{Give, New, Fail}
use Rattle.py_values.specs.declared.end.Raise.{Raise}
use Rattle.py_values.specs.declared.object.ExceptionObj.{ExceptionObj}
use Rattle.py_values.specs.declared.object.InfoObj.{InfoObj}
use Rattle.py_values.specs.declared.object.ItemObj.{ItemObj}
use Rattle.py_values.specs.declared.object.RequestObj.{RequestObj}
use Rattle.py_values.specs.declared.object.Obj.{Obj}
use Rattle.py_values.specs.declared.object.Obj.TheVariants as obj
use Rattle.py_values.specs.declared.value.ObjId.{ObjId}
use Rattle.py_values.specs.declared.value.Value.{Value}
use Rattle.py_values.specs.declared.value.Value.TheVariants as val

abbrev pub no_attribute : List ℕ → List ℕ → Raise
no_attribute kind name = text_raise AttributeError (codes "'" ++ (kind ++ (codes "' object has no attribute '" ++ (name ++ codes "'"))))

-- an exception's own name `args` stands for itself
abbrev pub is_args : List ℕ → Bool
is_args name = name_eq name (codes "args")

abbrev pub exception_value : List ℕ → ExceptionObj → Option Value
exception_value name x = if is_args name then x.args else find_name name x.names

-- the value that a name of an object's own has; modules, classes, instances and exceptions have names
abbrev pub own_value : List ℕ → Option Obj → Option Value
own_value name (Some (obj.Text x)) = None
own_value name (Some (obj.List x)) = None
own_value name (Some (obj.Tuple x)) = None
own_value name (Some (obj.Dict x)) = None
own_value name (Some (obj.Range x)) = None
own_value name (Some (obj.Function x)) = None
own_value name (Some (obj.Method x)) = None
own_value name (Some (obj.Builtin x)) = None
own_value name (Some (obj.Class x)) = find_name name x.names
own_value name (Some (obj.Instance x)) = find_name name x.names
own_value name (Some (obj.Exception x)) = exception_value name x
own_value name (Some (obj.Module x)) = find_name name x.names
own_value name (Some (obj.Fixture x)) = None
own_value name (Some obj.MarkMaker) = None
own_value name (Some (obj.Mark x)) = None
own_value name (Some (obj.Hook x)) = None
own_value name (Some (obj.Param x)) = None
own_value name (Some (obj.Request x)) = None
own_value name (Some (obj.Raises x)) = None
own_value name (Some (obj.Info x)) = None
own_value name (Some (obj.Item x)) = None
own_value name None = None

-- the value of a name in a class or in those on which it stands, in at most n steps down
abbrev pub class_names : Option Obj → List (List ℕ × Value)
class_names (Some (obj.Class c)) = c.names
class_names (Some (obj.Text x)) = []
class_names (Some (obj.List x)) = []
class_names (Some (obj.Tuple x)) = []
class_names (Some (obj.Dict x)) = []
class_names (Some (obj.Range x)) = []
class_names (Some (obj.Function x)) = []
class_names (Some (obj.Method x)) = []
class_names (Some (obj.Builtin x)) = []
class_names (Some (obj.Instance x)) = []
class_names (Some (obj.Exception x)) = []
class_names (Some (obj.Module x)) = []
class_names (Some (obj.Fixture x)) = []
class_names (Some obj.MarkMaker) = []
class_names (Some (obj.Mark x)) = []
class_names (Some (obj.Hook x)) = []
class_names (Some (obj.Param x)) = []
class_names (Some (obj.Request x)) = []
class_names (Some (obj.Raises x)) = []
class_names (Some (obj.Info x)) = []
class_names (Some (obj.Item x)) = []
class_names None = []

abbrev pub first_value : Option Value → (ObjId → Option Value) → Option ObjId → Option Value
first_value (Some v) f b = Some v
first_value None f None = None
first_value None f (Some b) = f b

abbrev pub value_within : ℕ → List Obj → List ℕ → ObjId → Option Value
value_within zero heap name c = None
value_within (suc n) heap name c = first_value (find_name name (class_names (slice_get heap c.at))) (λ b. value_within n heap name b) (base_of (slice_get heap c.at))

abbrev pub class_value : List Obj → List ℕ → ObjId → Option Value
class_value heap name c = value_within (length heap) heap name c

-- the object that has the names of a class of exceptions: its own, or else that of its base
abbrev pub place_or : Option ObjId → Option ExcClass → Option ObjId
place_or (Some id) base = Some id
place_or None base = base_place base

abbrev pub names_place : ClassRef → Option ObjId
names_place (ref.Defined id) = Some id
names_place (ref.Builtin c) = place_or (class_place c) (exc_base c)

abbrev pub value_at_class : List Obj → List ℕ → Option ObjId → Option Value
value_at_class heap name (Some id) = class_value heap name id
value_at_class heap name None = None

abbrev pub value_by_class : List Obj → List ℕ → ClassRef → Option Value
value_by_class heap name class = value_at_class heap name (names_place class)

-- a function that is read through an instance is a method of it
abbrev pub method_of : Option Obj → ObjId → Value → Effect
method_of (Some (obj.Function f)) id receiver = New (obj.Method (record { function = id; receiver = receiver })) 0
method_of (Some (obj.Text x)) id receiver = Give (val.Ref id) 0
method_of (Some (obj.List x)) id receiver = Give (val.Ref id) 0
method_of (Some (obj.Tuple x)) id receiver = Give (val.Ref id) 0
method_of (Some (obj.Dict x)) id receiver = Give (val.Ref id) 0
method_of (Some (obj.Range x)) id receiver = Give (val.Ref id) 0
method_of (Some (obj.Method x)) id receiver = Give (val.Ref id) 0
method_of (Some (obj.Builtin x)) id receiver = Give (val.Ref id) 0
method_of (Some (obj.Class x)) id receiver = Give (val.Ref id) 0
method_of (Some (obj.Instance x)) id receiver = Give (val.Ref id) 0
method_of (Some (obj.Exception x)) id receiver = Give (val.Ref id) 0
method_of (Some (obj.Module x)) id receiver = Give (val.Ref id) 0
method_of (Some (obj.Fixture x)) id receiver = Give (val.Ref id) 0
method_of (Some obj.MarkMaker) id receiver = Give (val.Ref id) 0
method_of (Some (obj.Mark x)) id receiver = Give (val.Ref id) 0
method_of (Some (obj.Hook x)) id receiver = Give (val.Ref id) 0
method_of (Some (obj.Param x)) id receiver = Give (val.Ref id) 0
method_of (Some (obj.Request x)) id receiver = Give (val.Ref id) 0
method_of (Some (obj.Raises x)) id receiver = Give (val.Ref id) 0
method_of (Some (obj.Info x)) id receiver = Give (val.Ref id) 0
method_of (Some (obj.Item x)) id receiver = Give (val.Ref id) 0
method_of None id receiver = Give (val.Ref id) 0

abbrev pub read_through : List Obj → Value → Value → Effect
read_through heap receiver (val.Ref id) = method_of (slice_get heap id.at) id receiver
read_through heap receiver val.None = Give val.None 0
read_through heap receiver (val.Bool b) = Give (val.Bool b) 0
read_through heap receiver (val.Int n) = Give (val.Int n) 0

abbrev pub given_or_none : Raise → Option Value → Effect
given_or_none none (Some v) = Give v 0
given_or_none none None = Fail none 0

abbrev pub through_or_none : List Obj → Value → Raise → Option Value → Effect
through_or_none heap receiver none (Some v) = read_through heap receiver v
through_or_none heap receiver none None = Fail none 0

-- a name of an instance's own, or else one of its class
abbrev pub own_or : Option Value → Effect → Effect
own_or (Some v) m = Give v 0
own_or None m = m

-- a method of a built-in kind, with the value through which it is read
abbrev pub method_or : Raise → Value → Option Builtin → Effect
method_or none v (Some b) = New (obj.Builtin (record { which = b; receiver = Some v })) 0
method_or none v None = Fail none 0

-- a new text, or None where there is none
abbrev pub text_or_nothing : Option (List ℕ) → Effect
text_or_nothing (Some t) = New (obj.Text t) 0
text_or_nothing None = Give val.None 0

-- `pytest.mark` has a mark of every name
abbrev pub mark_named : List ℕ → Effect
mark_named name = New (obj.Mark (record { name = name; args = []; named = []; called = false })) 0

-- the parameter, the name and the scope of what asks for fixtures, and its method
abbrev pub request_attribute : Raise → Value → List ℕ → RequestObj → Effect
request_attribute none v name r =
    if name_eq name (codes "param") then given_or_none none r.param
    else if name_eq name (codes "fixturename") then text_or_nothing r.name
    else if name_eq name (codes "scope") then New (obj.Text r.scope) 0
    else method_or none v (method_in name request_methods)

-- the exception that was taken
abbrev pub info_attribute : Raise → List ℕ → InfoObj → Effect
info_attribute none name x = if name_eq name (codes "value") then given_or_none none x.value else Fail none 0

-- the name and the node id of a test item
abbrev pub item_attribute : Raise → List ℕ → ItemObj → Effect
item_attribute none name x =
    if name_eq name (codes "name") then New (obj.Text x.name) 0
    else if name_eq name (codes "nodeid") then New (obj.Text x.node_id) 0
    else Fail none 0

abbrev pub object_attribute : List Obj → Value → ObjId → Raise → List ℕ → Option Obj → Effect
object_attribute heap v id none name (Some (obj.Text x)) = method_or none v (method_in name text_methods)
object_attribute heap v id none name (Some (obj.List x)) = method_or none v (method_in name list_methods)
object_attribute heap v id none name (Some (obj.Tuple x)) = method_or none v (method_in name tuple_methods)
object_attribute heap v id none name (Some (obj.Dict x)) = method_or none v (method_in name dict_methods)
object_attribute heap v id none name (Some (obj.Range x)) = Fail none 0
object_attribute heap v id none name (Some (obj.Function x)) = Fail none 0
object_attribute heap v id none name (Some (obj.Method x)) = Fail none 0
object_attribute heap v id none name (Some (obj.Builtin x)) = Fail none 0
object_attribute heap v id none name (Some (obj.Class x)) = given_or_none none (class_value heap name id)
object_attribute heap v id none name (Some (obj.Instance x)) = own_or (find_name name x.names) (through_or_none heap v none (class_value heap name x.class))
object_attribute heap v id none name (Some (obj.Exception x)) = own_or (exception_value name x) (through_or_none heap v none (value_by_class heap name x.class))
object_attribute heap v id none name (Some (obj.Module x)) = given_or_none none (find_name name x.names)
object_attribute heap v id none name (Some (obj.Fixture x)) = Fail none 0
object_attribute heap v id none name (Some obj.MarkMaker) = mark_named name
object_attribute heap v id none name (Some (obj.Mark x)) = Fail none 0
object_attribute heap v id none name (Some (obj.Hook x)) = Fail none 0
object_attribute heap v id none name (Some (obj.Param x)) = Fail none 0
object_attribute heap v id none name (Some (obj.Request x)) = request_attribute none v name x
object_attribute heap v id none name (Some (obj.Raises x)) = Fail none 0
object_attribute heap v id none name (Some (obj.Info x)) = info_attribute none name x
object_attribute heap v id none name (Some (obj.Item x)) = item_attribute none name x
object_attribute heap v id none name None = Fail none 0

-- AN ATTRIBUTE that is read, at no cost
unfoldable pub attribute_of : List Obj → Value → List ℕ → Effect
attribute_of heap (val.Ref id) name = object_attribute heap (val.Ref id) id (no_attribute (kind_name heap (val.Ref id)) name) name (slice_get heap id.at)
attribute_of heap val.None name = Fail (no_attribute (kind_name heap val.None) name) 0
attribute_of heap (val.Bool b) name = Fail (no_attribute (kind_name heap (val.Bool b)) name) 0
attribute_of heap (val.Int n) name = Fail (no_attribute (kind_name heap (val.Int n)) name) 0
