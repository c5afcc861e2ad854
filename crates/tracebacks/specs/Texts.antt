-- The text of an exception in a report (pytest's "How to manage pytest's output").
use Rattle.std.specs.Prelude.{ℕ, ◌-◌, List, ◌++◌, length, take, Option, Some, None, Bool, false, ◌&&◌, ◌==◌, codes, nat_eq, if◌then◌else◌, slice_get}
use Rattle.std.specs.List.{starts_with}
use Rattle.py_values.specs.declared.class.ClassRef.{ClassRef}
use Rattle.py_values.specs.declared.class.ClassRef.TheVariants.{Builtin, Defined}
use Rattle.py_values.specs.declared.class.ExcClass.TheVariants.{AssertionError}
use Rattle.py_values.specs.declared.object.Obj.{Obj}
use Rattle.py_values.specs.declared.object.Obj.TheVariants as obj
use Rattle.py_values.specs.declared.value.Value.{Value}
use Rattle.py_values.specs.declared.value.Value.TheVariants as val
use Rattle.py_kinds.specs.Classes.{exc_eq}
use Rattle.py_kinds.specs.Kinds.{kind_name}
use Rattle.py_repr.specs.declared.shown.Shown.{Shown}
use Rattle.py_repr.specs.Repr.{message_of}
use Rattle.py_repr.specs.Symbols.{shown}
use Rattle.py_world.specs.Runs.{step_limit}

-- the most characters of a message, and those that are left where it is cut
abbrev pub most_told : ℕ
most_told = 65536

abbrev pub left_told : ℕ
left_told = most_told - 3

-- a message of more characters is its first ones and three dots
abbrev pub message_text : Shown → List ℕ
message_text s = if s.cut then take left_told s.text ++ codes "..." else s.text

-- the class of an exception; none of what is no exception
abbrev pub exc_class_in : Option Obj → Option ClassRef
exc_class_in (Some (obj.Exception e)) = Some e.class
exc_class_in (Some (obj.Text x)) = None
exc_class_in (Some (obj.List x)) = None
exc_class_in (Some (obj.Tuple x)) = None
exc_class_in (Some (obj.Dict x)) = None
exc_class_in (Some (obj.Range x)) = None
exc_class_in (Some (obj.Function x)) = None
exc_class_in (Some (obj.Method x)) = None
exc_class_in (Some (obj.Builtin x)) = None
exc_class_in (Some (obj.Class x)) = None
exc_class_in (Some (obj.Instance x)) = None
exc_class_in (Some (obj.Module x)) = None
exc_class_in (Some (obj.Fixture x)) = None
exc_class_in (Some obj.MarkMaker) = None
exc_class_in (Some (obj.Mark x)) = None
exc_class_in (Some (obj.Hook x)) = None
exc_class_in (Some (obj.Param x)) = None
exc_class_in (Some (obj.Request x)) = None
exc_class_in (Some (obj.Raises x)) = None
exc_class_in (Some (obj.Info x)) = None
exc_class_in (Some (obj.Item x)) = None
exc_class_in None = None

abbrev pub class_of : List Obj → Value → Option ClassRef
class_of heap (val.Ref id) = exc_class_in (slice_get heap id.at)
class_of heap val.None = None
class_of heap (val.Bool b) = None
class_of heap (val.Int n) = None

-- whether the class is that of a failed assert
abbrev pub is_assertion : Option ClassRef → Bool
is_assertion (Some (Builtin c)) = exc_eq c AssertionError
is_assertion (Some (Defined id)) = false
is_assertion None = false

-- the name of a class and the message; the message alone where it is that of an assert; the name alone for no message
abbrev pub class_and_message : List ℕ → Bool → List ℕ → List ℕ
class_and_message name assertion message =
    if length message == 0 then name
    else if assertion && starts_with nat_eq message (codes "assert ") then message
    else name ++ (codes ": " ++ message)

-- the text of an exception
unfoldable pub exception_text : List Obj → Value → List ℕ
exception_text heap exc =
    class_and_message (kind_name heap exc) (is_assertion (class_of heap exc)) (message_text (shown most_told (message_of heap exc)))

-- the text of the exception that an exhausted call has raised
abbrev pub limit_text : ℕ → List ℕ
limit_text limit = codes "StepLimit: " ++ step_limit limit
