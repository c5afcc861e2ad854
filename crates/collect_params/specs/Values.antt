-- The ids of parameters (pytest's reference, "ids" of `parametrize`: which values have ids of their own is pytest's; how the characters of
-- ids are written is the project's own).
use Rattle.std.specs.Prelude.{ℕ, zero, suc, ◌+◌, ◌/◌, ◌%◌, ◌==◌, ◌&&◌, Bool, true, false, List, [], ◌∷◌, ◌++◌, Option, Some, None, codes, map, nat_le, nat_lt, slice_get, if◌then◌else◌}
use Rattle.std.specs.Fmt.{decimal, signed_decimal}
use Rattle.std.specs.List.{flat_map}
use Rattle.param_rows.specs.Ids.{Id, unique_of}
use Rattle.param_rows.specs.declared.param.ParamSet.{ParamSet}
use Rattle.py_values.specs.declared.object.Obj.{Obj}
use Rattle.py_values.specs.declared.object.Obj.TheVariants as obj
use Rattle.py_values.specs.declared.value.Value.{Value}
use Rattle.py_values.specs.declared.value.Value.TheVariants as val

-- the id that a value has by itself: numbers, booleans and None as they are written, texts themselves, functions and classes their names
abbrev pub object_text : Option Obj → Option Id
object_text (Some (obj.Text x)) = Some x
object_text (Some (obj.Function x)) = Some x.name
object_text (Some (obj.Class x)) = Some x.name
object_text (Some (obj.List x)) = None
object_text (Some (obj.Tuple x)) = None
object_text (Some (obj.Dict x)) = None
object_text (Some (obj.Range x)) = None
object_text (Some (obj.Method x)) = None
object_text (Some (obj.Builtin x)) = None
object_text (Some (obj.Instance x)) = None
object_text (Some (obj.Exception x)) = None
object_text (Some (obj.Module x)) = None
object_text (Some (obj.Fixture x)) = None
object_text (Some obj.MarkMaker) = None
object_text (Some (obj.Mark x)) = None
object_text (Some (obj.Hook x)) = None
object_text (Some (obj.Param x)) = None
object_text (Some (obj.Request x)) = None
object_text (Some (obj.Raises x)) = None
object_text (Some (obj.Info x)) = None
object_text (Some (obj.Item x)) = None
object_text None = None

-- any other has the name of its argument and the number of its row
abbrev pub or_numbered : Id → ℕ → Option Id → Id
or_numbered name number (Some text) = text
or_numbered name number None = name ++ decimal number

abbrev pub bool_text : Bool → Id
bool_text true = codes "True"
bool_text false = codes "False"

-- THE ID OF ONE VALUE of an argument, in a row
unfoldable pub value_id : List Obj → Id → ℕ → Value → Id
value_id heap name number val.None = codes "None"
value_id heap name number (val.Bool b) = bool_text b
value_id heap name number (val.Int n) = signed_decimal n
value_id heap name number (val.Ref id) = or_numbered name number (object_text (slice_get heap id.at))

-- the ids of the values of a row, each with the name of its argument
abbrev pub value_ids : List Obj → ℕ → List Id → List Value → List Id
value_ids heap number [] vs = []
value_ids heap number (name ∷ names) [] = []
value_ids heap number (name ∷ names) (v ∷ vs) = value_id heap name number v ∷ value_ids heap number names vs

abbrev pub behind_dash : Id → Id
behind_dash id = 45 ∷ id

-- side by side, with `-` between
abbrev pub dashed : List Id → Id
dashed [] = []
dashed (id ∷ ids) = id ++ flat_map behind_dash ids

-- HOW IDS ARE WRITTEN: printable ASCII as it stands, but for the backslash; the others as in a literal

abbrev pub hex_digit : ℕ → ℕ
hex_digit n = if nat_lt n 10 then 48 + n else 87 + n

-- the last so many hexadecimal digits of a number
abbrev pub hex_digits : ℕ → ℕ → List ℕ
hex_digits zero n = []
hex_digits (suc many) n = hex_digits many (n / 16) ++ hex_digit (n % 16) ∷ []

abbrev pub numbered_escape : ℕ → List ℕ
numbered_escape c =
    if nat_lt c 256 then codes "\\x" ++ hex_digits 2 c
    else (if nat_lt c 65536 then codes "\\u" ++ hex_digits 4 c else codes "\\U" ++ hex_digits 8 c)

unfoldable pub escaped_char : ℕ → List ℕ
escaped_char c =
    if c == 10 then codes "\\n"
    else (if c == 9 then codes "\\t"
    else (if c == 13 then codes "\\r"
    else (if c == 92 then codes "\\\\"
    else (if nat_le 32 c && nat_lt c 127 then c ∷ [] else numbered_escape c))))

unfoldable pub escaped : Id → Id
escaped id = flat_map escaped_char id

-- IDS OF SETS

abbrev pub id_or : Id → Option Id → Id
id_or made (Some id) = id
id_or made None = made

-- the id of a set: what is given, or else that of its values
abbrev pub set_id : List Obj → List Id → ℕ → ParamSet Value → Id
set_id heap names number set = escaped (id_or (dashed (value_ids heap number names set.values)) set.id)

abbrev pub set_ids_from : List Obj → List Id → ℕ → List (ParamSet Value) → List Id
set_ids_from heap names number [] = []
set_ids_from heap names number (set ∷ sets) = set_id heap names number set ∷ set_ids_from heap names (number + 1) sets

-- THE IDS of the sets of a `parametrize` with these names; equal ones are told apart
unfoldable pub set_ids : List Obj → List Id → List (ParamSet Value) → List Id
set_ids heap names sets = unique_of (set_ids_from heap names 0 sets)

-- a fixture's name serves for each value of a parameter
abbrev pub param_id : List Obj → Id → ℕ → ParamSet Value → Id
param_id heap name number set = escaped (id_or (dashed (map (value_id heap name number) set.values)) set.id)

abbrev pub param_ids_from : List Obj → Id → ℕ → List (ParamSet Value) → List Id
param_ids_from heap name number [] = []
param_ids_from heap name number (set ∷ sets) = param_id heap name number set ∷ param_ids_from heap name (number + 1) sets

-- THE IDS of the parameters of a fixture with this name
unfoldable pub param_ids : List Obj → Id → List (ParamSet Value) → List Id
param_ids heap name sets = unique_of (param_ids_from heap name 0 sets)
