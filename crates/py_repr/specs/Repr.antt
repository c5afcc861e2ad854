-- What is shown of a value: its repr, its text, and an exception's message (Python library reference, `repr` and `str`).
use Rattle.std.specs.Prelude.{ℕ, zero, suc, Bool, true, false, List, [], ◌∷◌, ◌++◌, if◌then◌else◌, Option, Some, None, codes, slice_get, eqb}
use Rattle.py_values.specs.Limits.{most_value_levels}
use Rattle.std.specs.List.{list_any}
use Rattle.std.specs.Fmt.{signed_decimal}
use Rattle.py_kinds.specs.Builtins.{builtin_name}
use Rattle.py_kinds.specs.Classes.{exc_eq, root_of}
use Rattle.py_kinds.specs.Kinds.{class_name_at, class_ref_name}
use Rattle.py_values.specs.Raises.{args_in}
use Rattle.py_values.specs.declared.class.ClassRef.{ClassRef}
use Rattle.py_values.specs.declared.class.ExcClass.{ExcClass}
use Rattle.py_values.specs.declared.class.ExcClass.TheVariants as class
use Rattle.py_values.specs.declared.dict.Pair.{Pair}
use Rattle.py_values.specs.declared.key.Atom.{Atom}
use Rattle.py_values.specs.declared.object.Obj.{Obj}
use Rattle.py_values.specs.declared.object.Obj.TheVariants as obj
use Rattle.py_values.specs.declared.value.ObjId.{ObjId}
use Rattle.py_values.specs.declared.value.Value.{Value}
use Rattle.py_values.specs.declared.value.Value.TheVariants as val
use Rattle.py_repr.specs.Symbols.{Symbol, glyphs, dots}
use Rattle.py_repr.specs.Words.{quoted_text, range_repr, function_name_at, object_text, builtin_text, method_text}

-- what is shown of values, with a comma between them
abbrev pub item_row : Bool → (Value → List Symbol) → List Value → List Symbol
item_row first f [] = []
item_row first f (v ∷ vs) = (if first then [] else glyphs (codes ", ")) ++ (f v ++ item_row false f vs)

abbrev pub pair_repr : (Value → List Symbol) → Pair → List Symbol
pair_repr f p = f p.key ++ (glyphs (codes ": ") ++ f p.value)

-- what is shown of pairs, with a comma between them
abbrev pub pairs_row : Bool → (Value → List Symbol) → List (List Atom × Pair) → List Symbol
pairs_row first f [] = []
pairs_row first f (e ∷ es) = (if first then [] else glyphs (codes ", ")) ++ (pair_repr f e.1 ++ pairs_row false f es)

-- values within parentheses
abbrev pub args_repr : (Value → List Symbol) → List Value → List Symbol
args_repr f vs = glyphs (codes "(") ++ (item_row true f vs ++ glyphs (codes ")"))

-- a tuple of one element has a comma behind it
abbrev pub tuple_end : List Value → List ℕ
tuple_end [] = codes ")"
tuple_end (v ∷ []) = codes ",)"
tuple_end (v ∷ (w ∷ vs)) = codes ")"

-- a list, a tuple and a dict, given what is shown of a value within it, and whether it is one of the objects around it
abbrev pub list_repr : (Value → List Symbol) → Bool → List Value → List Symbol
list_repr f inside vs = if inside then glyphs (codes "[...]") else glyphs (codes "[") ++ (item_row true f vs ++ glyphs (codes "]"))

abbrev pub tuple_repr : (Value → List Symbol) → Bool → List Value → List Symbol
tuple_repr f inside vs = if inside then glyphs (codes "(...)") else glyphs (codes "(") ++ (item_row true f vs ++ glyphs (tuple_end vs))

abbrev pub dict_repr : (Value → List Symbol) → Bool → List (List Atom × Pair) → List Symbol
dict_repr f inside es = if inside then glyphs (codes "{...}") else glyphs (codes "{") ++ (pairs_row true f es ++ glyphs (codes "}"))

abbrev pub exception_repr : List Obj → (Value → List Symbol) → ClassRef → List Value → List Symbol
exception_repr heap f c args = glyphs (class_ref_name heap c) ++ args_repr f args

-- AN OBJECT, given what is shown of a value within it (f for an element, g for an argument of an exception), and whether it is
-- one of the objects around it
abbrev pub obj_repr : List Obj → (Value → List Symbol) → (Value → List Symbol) → Bool → Option Obj → List Symbol
obj_repr heap f g inside (Some (obj.Text t)) = glyphs (quoted_text t)
obj_repr heap f g inside (Some (obj.List vs)) = list_repr f inside vs
obj_repr heap f g inside (Some (obj.Tuple vs)) = tuple_repr f inside vs
obj_repr heap f g inside (Some (obj.Dict es)) = dict_repr f inside es
obj_repr heap f g inside (Some (obj.Range r)) = glyphs (range_repr r)
obj_repr heap f g inside (Some (obj.Function x)) = glyphs (codes "<function " ++ (x.name ++ codes ">"))
obj_repr heap f g inside (Some (obj.Method x)) = glyphs (method_text (function_name_at (slice_get heap x.function.at)))
obj_repr heap f g inside (Some (obj.Builtin x)) = glyphs (builtin_text (builtin_name x.which))
obj_repr heap f g inside (Some (obj.Class x)) = glyphs (codes "<class '" ++ (x.name ++ codes "'>"))
obj_repr heap f g inside (Some (obj.Instance x)) = glyphs (object_text (class_name_at (slice_get heap x.class.at)))
obj_repr heap f g inside (Some (obj.Exception e)) = exception_repr heap g e.class (args_in heap e.args)
obj_repr heap f g inside (Some (obj.Module m)) = glyphs (codes "<module '" ++ (m.path ++ codes "'>"))
obj_repr heap f g inside (Some (obj.Fixture x)) = glyphs (object_text (codes "fixture"))
obj_repr heap f g inside (Some obj.MarkMaker) = glyphs (object_text (codes "mark"))
obj_repr heap f g inside (Some (obj.Mark x)) = glyphs (object_text (codes "mark"))
obj_repr heap f g inside (Some (obj.Hook x)) = glyphs (object_text (codes "mark"))
obj_repr heap f g inside (Some (obj.Param x)) = glyphs (object_text (codes "param"))
obj_repr heap f g inside (Some (obj.Request x)) = glyphs (object_text (codes "request"))
obj_repr heap f g inside (Some (obj.Raises x)) = glyphs (object_text (codes "raises"))
obj_repr heap f g inside (Some (obj.Info x)) = glyphs (object_text (codes "info"))
obj_repr heap f g inside (Some (obj.Item x)) = glyphs (object_text (codes "item"))
obj_repr heap f g inside None = glyphs (codes "<object>")

-- whether an object is one of those around it
abbrev pub is_around : List ObjId → ObjId → Bool
is_around around id = list_any (λ d. eqb d.at id.at) around

-- THE REPR OF A VALUE, to a depth, within lists, tuples and dicts
abbrev pub repr_to : ℕ → List Obj → List ObjId → Value → List Symbol
repr_to zero heap around v = dots
repr_to (suc n) heap around val.None = glyphs (codes "None")
repr_to (suc n) heap around (val.Bool b) = glyphs (if b then codes "True" else codes "False")
repr_to (suc n) heap around (val.Int z) = glyphs (signed_decimal z)
repr_to (suc n) heap around (val.Ref id) =
    obj_repr heap (repr_to n heap (around ++ id ∷ [])) (repr_to n heap around) (is_around around id) (slice_get heap id.at)

-- a class whose exceptions show the repr of their one argument
abbrev pub is_key_error : Option ExcClass → Bool
is_key_error (Some c) = exc_eq c class.KeyError
is_key_error None = false

-- an exception's message, given the repr and the text of a value within it: nothing for no argument, that of the one, else
-- the repr of the tuple
abbrev pub message_by : (Value → List Symbol) → (Value → List Symbol) → Bool → List Value → List Symbol
message_by f g key [] = []
message_by f g key (v ∷ []) = if key then f v else g v
message_by f g key (v ∷ (w ∷ vs)) = args_repr f (v ∷ (w ∷ vs))

-- THE TEXT OF AN OBJECT, given the repr and the text of a value within it, and its own repr: a text is its own, an exception's is
-- its message
abbrev pub obj_str : List Obj → (Value → List Symbol) → (Value → List Symbol) → List Symbol → Option Obj → List Symbol
obj_str heap f g own (Some (obj.Text t)) = glyphs t
obj_str heap f g own (Some (obj.Exception e)) = message_by f g (is_key_error (root_of heap e.class)) (args_in heap e.args)
obj_str heap f g own (Some (obj.List x)) = own
obj_str heap f g own (Some (obj.Tuple x)) = own
obj_str heap f g own (Some (obj.Dict x)) = own
obj_str heap f g own (Some (obj.Range x)) = own
obj_str heap f g own (Some (obj.Function x)) = own
obj_str heap f g own (Some (obj.Method x)) = own
obj_str heap f g own (Some (obj.Builtin x)) = own
obj_str heap f g own (Some (obj.Class x)) = own
obj_str heap f g own (Some (obj.Instance x)) = own
obj_str heap f g own (Some (obj.Module x)) = own
obj_str heap f g own (Some (obj.Fixture x)) = own
obj_str heap f g own (Some obj.MarkMaker) = own
obj_str heap f g own (Some (obj.Mark x)) = own
obj_str heap f g own (Some (obj.Hook x)) = own
obj_str heap f g own (Some (obj.Param x)) = own
obj_str heap f g own (Some (obj.Request x)) = own
obj_str heap f g own (Some (obj.Raises x)) = own
obj_str heap f g own (Some (obj.Info x)) = own
obj_str heap f g own (Some (obj.Item x)) = own
obj_str heap f g own None = own

-- the text of a value, to a depth
abbrev pub str_to : ℕ → List Obj → Value → List Symbol
str_to zero heap v = dots
str_to (suc n) heap (val.Ref id) =
    obj_str heap (repr_to n heap []) (str_to n heap) (repr_to (suc n) heap [] (val.Ref id)) (slice_get heap id.at)
str_to (suc n) heap val.None = repr_to (suc n) heap [] val.None
str_to (suc n) heap (val.Bool b) = repr_to (suc n) heap [] (val.Bool b)
str_to (suc n) heap (val.Int z) = repr_to (suc n) heap [] (val.Int z)

-- the repr of a value, and its text; the message of an exception is its text
unfoldable pub repr_of : List Obj → Value → List Symbol
repr_of heap v = repr_to most_value_levels heap [] v

unfoldable pub str_of : List Obj → Value → List Symbol
str_of heap v = str_to most_value_levels heap v

abbrev pub message_of : List Obj → Value → List Symbol
message_of heap exc = str_of heap exc
