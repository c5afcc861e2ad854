-- Calls of what is built in.
use Rattle.std.specs.Prelude.{ℕ, List, [], length, nat_lt, if◌then◌else◌, encode_utf8_all}
use Rattle.sequence_calls.specs.call_products.Arguments.{sole}
use Rattle.sequence_calls.specs.call_products.Products.{plain}
use Rattle.sequence_calls.specs.call_products.declared.product.Product.{Product}
use Rattle.number_calls.specs.Calls.{number_call_of}
use Rattle.object_calls.specs.Calls.{object_call_of}
use Rattle.sequence_calls.specs.Calls.{sequence_call_of}
use Rattle.py_calls.specs.Called.{CallEffect}
use Rattle.py_calls.specs.Functions.{str_made, len_made}
use Rattle.py_calls.specs.Methods.{text_call_of, list_call_of, tuple_call_of, dict_call_of}
use Rattle.py_calls.specs.Printing.{print_text}
use Rattle.py_calls.specs.declared.made.TextResult.{TextResult}
use Rattle.py_calls.specs.declared.made.TextResult.TheVariants.{Text, Refused}
use Rattle.py_values.specs.Ends.{cost_of}
use Rattle.py_values.specs.declared.builtin.Builtin.{Builtin}
use Rattle.py_values.specs.declared.builtin.Builtin.TheVariants as builtin
use Rattle.py_values.specs.declared.end.Effect.TheVariants.{Give, Fail}
use Rattle.py_values.specs.declared.object.Obj.{Obj}
use Rattle.py_values.specs.declared.value.Value.{Value}
use Rattle.py_values.specs.declared.value.Value.TheVariants as val
use Rattle.pytest_calls.specs.Calls.{pytest_called, addfinalizer_called}

-- `print(v, ..)`: the bytes of the text, at the cost of its length
abbrev pub print_by : TextResult → CallEffect
print_by (Text t) = record { printed = encode_utf8_all t; product = plain (Give val.None (length t)) }
print_by (Refused r) = record { printed = []; product = plain (Fail r 0) }

-- a call that prints nothing
abbrev pub quiet : Product → CallEffect
quiet p = record { printed = []; product = p }

-- A CALL with arguments by position and by name; of a method the first is the value through which it was read
abbrev pub called_of : Builtin → List Obj → List Value → List (List ℕ × Value) → CallEffect
called_of builtin.Print heap args named = print_by (print_text heap args named)
called_of builtin.Len heap args named = quiet (len_made heap (sole args named))
called_of builtin.Str heap args named = quiet (str_made heap (sole args named))
called_of (builtin.Sequence c) heap args named = quiet (sequence_call_of c heap args named)
called_of (builtin.Number c) heap args named = quiet (number_call_of c heap args named)
called_of (builtin.Object c) heap args named = quiet (object_call_of c heap args named)
called_of (builtin.Text m) heap args named = quiet (text_call_of m heap args named)
called_of (builtin.List m) heap args named = quiet (list_call_of m heap args named)
called_of (builtin.Tuple m) heap args named = quiet (tuple_call_of m heap args named)
called_of (builtin.Dict m) heap args named = quiet (dict_call_of m heap args named)
called_of (builtin.Pytest c) heap args named = quiet (pytest_called c heap args named)
called_of builtin.AddFinalizer heap args named = quiet (addfinalizer_called heap args named)

-- a call with arguments by position
abbrev pub builtin_of : Builtin → List Obj → List Value → CallEffect
builtin_of b heap args = called_of b heap args []

-- what is printed under a budget: nothing where it doesn't suffice
abbrev pub printed_within : ℕ → CallEffect → List ℕ
printed_within budget c = if nat_lt budget (cost_of c.product.made) then [] else c.printed
