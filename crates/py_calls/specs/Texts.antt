-- Texts of values, or why there is none.
use Rattle.std.specs.Prelude.{ℕ, List, ◌++◌, if◌then◌else◌, codes, Option, Some, None}
use Rattle.py_values.specs.Limits.{most_elements}
use Rattle.py_calls.specs.declared.made.TextResult.{TextResult}
use Rattle.py_calls.specs.declared.made.TextResult.TheVariants.{Text, Refused}
use Rattle.py_values.specs.Raises.{text_raise}
use Rattle.object_calls.specs.py_repr.Repr.{str_of}
use Rattle.object_calls.specs.py_repr.Symbols.{shown}
use Rattle.py_values.specs.declared.class.ExcClass.TheVariants.{TypeError, RecursionError, MemoryError}
use Rattle.py_values.specs.declared.end.Raise.{Raise}
use Rattle.py_values.specs.declared.object.Obj.{Obj}
use Rattle.object_calls.specs.py_repr.declared.shown.Shown.{Shown}
use Rattle.py_values.specs.declared.value.Value.{Value}

-- the arguments don't fit the call of a name
abbrev pub wrong : List ℕ → Raise
wrong name = text_raise TypeError (codes "wrong arguments for " ++ name)

-- a text that lies too deep, or is longer than 65,536 characters, is refused
abbrev pub text_by : Shown → TextResult
text_by s =
    if s.deep then Refused (text_raise RecursionError (codes "nesting too deep"))
    else if s.cut then Refused (text_raise MemoryError (codes "sequence too long"))
    else Text s.text

-- the text of a value
unfoldable pub text_of : List Obj → Value → TextResult
text_of heap v = text_by (shown most_elements (str_of heap v))

-- one text behind another; the first refusal where there is one
abbrev pub append_text : TextResult → TextResult → TextResult
append_text (Refused r) t = Refused r
append_text (Text a) (Refused r) = Refused r
append_text (Text a) (Text b) = Text (a ++ b)

-- what is told of a text that is being made
abbrev pub told_text : Option Raise → List ℕ → TextResult
told_text None a = Text a
told_text (Some r) a = Refused r
