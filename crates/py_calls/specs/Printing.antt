-- What `print` writes (Python library reference, `print`).
use Rattle.std.specs.Prelude.{ℕ, Bool, true, false, List, [], ◌∷◌, if◌then◌else◌, Option, Some, None, codes, slice_get, nat_eq}
use Rattle.std.specs.Cmp.Lexicographic.{pointwise}
use Rattle.py_calls.specs.Texts.{text_of, append_text, wrong}
use Rattle.py_calls.specs.declared.made.TextResult.{TextResult}
use Rattle.py_calls.specs.declared.made.TextResult.TheVariants.{Text, Refused}
use Rattle.py_calls.specs.declared.style.Style.{Style}
use Rattle.py_values.specs.declared.object.Obj.{Obj}
use Rattle.py_values.specs.declared.object.Obj.TheVariants as obj
use Rattle.py_values.specs.declared.value.Value.{Value}
use Rattle.py_values.specs.declared.value.Value.TheVariants as val

-- the separator before a value that isn't the first
abbrev pub gap : Bool → List ℕ → TextResult
gap first sep = Text (if first then [] else sep)

-- the texts of values, a separator before each but the first, and an end
abbrev pub line_of : List Obj → Bool → List ℕ → List ℕ → List Value → TextResult
line_of heap first sep end [] = Text end
line_of heap first sep end (v ∷ vs) = append_text (gap first sep) (append_text (text_of heap v) (line_of heap false sep end vs))

-- the text of a named argument: `None` stands for another
abbrev pub obj_option : Option Obj → Option (List ℕ)
obj_option (Some (obj.Text t)) = Some t
obj_option _ = None

abbrev pub option_text : List Obj → List ℕ → Value → Option (List ℕ)
option_text heap default val.None = Some default
option_text heap default (val.Ref id) = obj_option (slice_get heap id.at)
option_text heap default _ = None

-- how values are printed where no argument says it
abbrev pub plain_style : Style
plain_style = record { sep = codes " "; end = codes "\n" }

abbrev pub set_sep : Style → Option (List ℕ) → Option Style
set_sep s (Some t) = Some (record { sep = t; end = s.end })
set_sep s None = None

abbrev pub set_end : Style → Option (List ℕ) → Option Style
set_end s (Some t) = Some (record { sep = s.sep; end = t })
set_end s None = None

abbrev pub is_name : List ℕ → List ℕ → Bool
is_name name other = pointwise nat_eq name other

-- a style with one named argument; there is none where the name is another, or the value no text
abbrev pub style_with : List Obj → Style → List ℕ → Value → Option Style
style_with heap s name v =
    if is_name name (codes "sep") then set_sep s (option_text heap (codes " ") v)
    else if is_name name (codes "end") then set_end s (option_text heap (codes "\n") v)
    else None

-- the style with named arguments
abbrev pub styled : List Obj → Option Style → List (List ℕ × Value) → Option Style
styled heap None args = None
styled heap (Some s) [] = Some s
styled heap (Some s) (arg ∷ args) = styled heap (style_with heap s arg.0 arg.1) args

abbrev pub line_by : List Obj → List Value → Option Style → TextResult
line_by heap args (Some s) = line_of heap true s.sep s.end args
line_by heap args None = Refused (wrong (codes "print"))

-- what `print` writes
abbrev pub print_text : List Obj → List Value → List (List ℕ × Value) → TextResult
print_text heap args named = line_by heap args (styled heap (Some plain_style) named)
