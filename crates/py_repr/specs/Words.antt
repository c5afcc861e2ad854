-- Texts within quotes, ranges, and the names of objects.
use Rattle.std.specs.Prelude.{ℕ, ℤ, pos, Bool, true, false, ◌&&◌, ◌||◌, not, ◌+◌, ◌/◌, ◌%◌, List, [], ◌∷◌, ◌++◌, if◌then◌else◌, Option, Some, None, codes, slice_get, eqb, nat_lt, flat_map}
use Rattle.std.specs.List.{list_any}
use Rattle.std.specs.Fmt.{signed_decimal}
use Rattle.std.specs.Ordering.{int_eq}
use Rattle.py_values.specs.declared.object.Obj.{Obj}
use Rattle.py_values.specs.declared.object.Obj.TheVariants as obj
use Rattle.py_values.specs.declared.range.RangeObj.{RangeObj}

-- a digit to the base 16
abbrev pub hex_digit : ℕ → ℕ
hex_digit n = if nat_lt n 10 then 48 + n else 87 + n

-- a character below 256 by its number
abbrev pub hex : ℕ → List ℕ
hex c = 92 ∷ 120 ∷ hex_digit (c / 16) ∷ hex_digit (c % 16) ∷ []

-- a character within a text whose quote is q (Language Reference, escape sequences)
abbrev pub escaped : ℕ → ℕ → List ℕ
escaped q c =
    if eqb c q || eqb c 92 then 92 ∷ c ∷ []
    else if eqb c 10 then codes "\\n"
    else if eqb c 13 then codes "\\r"
    else if eqb c 9 then codes "\\t"
    else if nat_lt c 32 || eqb c 127 then hex c
    else c ∷ []

abbrev pub has : ℕ → List ℕ → Bool
has c text = list_any (λ d. eqb d c) text

-- a double quote where the text has a single one and no double one, else a single one
abbrev pub quote_of : List ℕ → ℕ
quote_of text = if has 39 text && not (has 34 text) then 34 else 39

abbrev pub escaped_text : ℕ → List ℕ → List ℕ
escaped_text q text = flat_map (escaped q) text

abbrev pub quoted_text : List ℕ → List ℕ
quoted_text text = quote_of text ∷ (escaped_text (quote_of text) text ++ quote_of text ∷ [])

-- the step is shown where it isn't 1
unfoldable pub range_end_by : ℤ → List ℕ
range_end_by step = if int_eq step (pos 1) then codes ")" else codes ", " ++ (signed_decimal step ++ codes ")")

unfoldable pub number_behind : List ℕ → ℤ → List ℕ
number_behind front n = front ++ signed_decimal n

unfoldable pub range_front : ℤ → ℤ → List ℕ
range_front start stop = number_behind (codes "range(") start ++ number_behind (codes ", ") stop

abbrev pub range_repr : RangeObj → List ℕ
range_repr r = range_front r.start r.stop ++ range_end_by r.step

-- an object of a kind, or of a class
unfoldable pub object_end : List ℕ
object_end = codes " object>"

abbrev pub object_text : List ℕ → List ℕ
object_text name = codes "<" ++ (name ++ object_end)

-- a built-in function by its name, where it has one
unfoldable pub function_text : List ℕ → List ℕ
function_text name = codes "<built-in function " ++ (name ++ codes ">")

unfoldable pub nameless_text : List ℕ
nameless_text = codes "<built-in function>"

abbrev pub builtin_text : Option (List ℕ) → List ℕ
builtin_text (Some name) = function_text name
builtin_text None = nameless_text

unfoldable pub method_text : List ℕ → List ℕ
method_text name = codes "<bound method " ++ (name ++ codes ">")

-- the name of a function of the heap
abbrev pub function_name_at : Option Obj → List ℕ
function_name_at (Some (obj.Function x)) = x.name
function_name_at (Some (obj.Text x)) = codes "object"
function_name_at (Some (obj.List x)) = codes "object"
function_name_at (Some (obj.Tuple x)) = codes "object"
function_name_at (Some (obj.Dict x)) = codes "object"
function_name_at (Some (obj.Range x)) = codes "object"
function_name_at (Some (obj.Method x)) = codes "object"
function_name_at (Some (obj.Builtin x)) = codes "object"
function_name_at (Some (obj.Class x)) = codes "object"
function_name_at (Some (obj.Instance x)) = codes "object"
function_name_at (Some (obj.Exception x)) = codes "object"
function_name_at (Some (obj.Module x)) = codes "object"
function_name_at (Some (obj.Fixture x)) = codes "object"
function_name_at (Some obj.MarkMaker) = codes "object"
function_name_at (Some (obj.Mark x)) = codes "object"
function_name_at (Some (obj.Hook x)) = codes "object"
function_name_at (Some (obj.Param x)) = codes "object"
function_name_at (Some (obj.Request x)) = codes "object"
function_name_at (Some (obj.Raises x)) = codes "object"
function_name_at (Some (obj.Info x)) = codes "object"
function_name_at (Some (obj.Item x)) = codes "object"
function_name_at None = codes "object"
