-- What `parametrize` and the `params` of a fixture give (pytest's reference, "pytest.mark.parametrize", "pytest.param"; its fixture guide,
-- "Parametrizing fixtures"). The lists of `parametrize` are read as they are when all files are loaded.
use Rattle.std.specs.Prelude.{ℕ, ◌+◌, ◌==◌, Bool, true, false, not, List, [], ◌∷◌, Option, Some, None, codes, map, option_map, slice_get}
use Rattle.std.specs.List.{filter, filter_map, flat_map, list_any, slice_split}
use Rattle.std.specs.Option.{option_or}
use Rattle.collect_marks.specs.Names.{marks_in}
use Rattle.collect_marks.specs.Says.{is_called}
use Rattle.collect_marks.specs.collect_names.Objects.{object_in}
use Rattle.param_rows.specs.declared.param.ParamSet.{ParamSet}
use Rattle.pytest_arguments.specs.Given.{row_at}
use Rattle.pytest_arguments.specs.py_operands.Texts.{text_of}
use Rattle.py_values.specs.Names.{find_name}
use Rattle.py_values.specs.declared.object.FixtureObj.{FixtureObj}
use Rattle.py_values.specs.declared.object.MarkObj.{MarkObj}
use Rattle.py_values.specs.declared.object.Obj.{Obj}
use Rattle.py_values.specs.declared.object.Obj.TheVariants as obj
use Rattle.py_values.specs.declared.object.ParamObj.{ParamObj}
use Rattle.py_values.specs.declared.value.Value.{Value}
use Rattle.text_methods.specs.Characters.{stripped}
use Rattle.collect_params.specs.declared.given.Parametrization.{Parametrization}

-- NAMES

abbrev pub is_comma : ℕ → Bool
is_comma c = c == 44

-- the names of a text stand between commas, and have no blanks at their ends
abbrev pub names_parted : List ℕ → List (List ℕ)
names_parted text = map stripped (slice_split is_comma text)

-- of a list or a tuple, its texts
abbrev pub names_in_row : List Obj → Option (List Value) → List (List ℕ)
names_in_row heap (Some vs) = filter_map (text_of heap) vs
names_in_row heap None = []

abbrev pub names_of_text : List Obj → Value → Option (List ℕ) → List (List ℕ)
names_of_text heap v (Some text) = names_parted text
names_of_text heap v None = names_in_row heap (row_at heap v)

-- THE NAMES that a value gives
abbrev pub names_given : List Obj → Value → List (List ℕ)
names_given heap v = names_of_text heap v (text_of heap v)

-- a text that is one name
abbrev pub is_single : Option (List ℕ) → Bool
is_single (Some text) = not (list_any is_comma text)
is_single None = false

-- SETS OF VALUES

-- what `param` made
abbrev pub param_in : Option Obj → Option ParamObj
param_in (Some (obj.Param x)) = Some x
param_in (Some (obj.Text x)) = None
param_in (Some (obj.List x)) = None
param_in (Some (obj.Tuple x)) = None
param_in (Some (obj.Dict x)) = None
param_in (Some (obj.Range x)) = None
param_in (Some (obj.Function x)) = None
param_in (Some (obj.Method x)) = None
param_in (Some (obj.Builtin x)) = None
param_in (Some (obj.Class x)) = None
param_in (Some (obj.Instance x)) = None
param_in (Some (obj.Exception x)) = None
param_in (Some (obj.Module x)) = None
param_in (Some (obj.Fixture x)) = None
param_in (Some obj.MarkMaker) = None
param_in (Some (obj.Mark x)) = None
param_in (Some (obj.Hook x)) = None
param_in (Some (obj.Request x)) = None
param_in (Some (obj.Raises x)) = None
param_in (Some (obj.Info x)) = None
param_in (Some (obj.Item x)) = None
param_in None = None

abbrev pub plain_set : Option (List ℕ) → List Value → ParamSet Value
plain_set id values = record { values = values; id = id; marks = [] }

-- a row is a value where there is one name by a text, or where it is no list and no tuple
abbrev pub row_set : Bool → Option (List ℕ) → Value → Option (List Value) → ParamSet Value
row_set true id v row = plain_set id (v ∷ [])
row_set false id v (Some vs) = plain_set id vs
row_set false id v None = plain_set id (v ∷ [])

-- what `param` made has its own values and marks, and its id comes before that of `ids`
abbrev pub param_set : Option (List ℕ) → ParamObj → ParamSet Value
param_set id p = record { values = p.values; id = option_or p.id id; marks = p.marks }

abbrev pub param_or_row : List Obj → Bool → Option (List ℕ) → Value → Option ParamObj → ParamSet Value
param_or_row heap single id v (Some p) = param_set id p
param_or_row heap single id v None = row_set single id v (row_at heap v)

-- THE SET of a row, with the id that `ids` has for it
abbrev pub set_given : List Obj → Bool → Option (List ℕ) → Value → ParamSet Value
set_given heap single id v = param_or_row heap single id v (param_in (object_in heap v))

-- the id at a place of `ids`; rows behind its end have none, and None is none
abbrev pub id_or_none : Option (Option (List ℕ)) → Option (List ℕ)
id_or_none (Some id) = id
id_or_none None = None

abbrev pub id_at : List (Option (List ℕ)) → ℕ → Option (List ℕ)
id_at ids place = id_or_none (slice_get ids place)

-- the sets of rows from a place on
abbrev pub sets_from : List Obj → Bool → List (Option (List ℕ)) → ℕ → List Value → List (ParamSet Value)
sets_from heap single ids place [] = []
sets_from heap single ids place (v ∷ vs) = set_given heap single (id_at ids place) v ∷ sets_from heap single ids (place + 1) vs

-- PARAMETRIZE

abbrev pub values_in_row : Option (List Value) → List Value
values_in_row (Some vs) = vs
values_in_row None = []

abbrev pub row_if : List Obj → Option Value → List Value
row_if heap (Some v) = values_in_row (row_at heap v)
row_if heap None = []

-- the ids of a `parametrize`
abbrev pub ids_given : List Obj → MarkObj → List (Option (List ℕ))
ids_given heap mark = map (text_of heap) (row_if heap (find_name (codes "ids") mark.named))

abbrev pub parametrized_by : List Obj → Value → Value → MarkObj → Parametrization
parametrized_by heap names rows mark = record {
  names = names_given heap names;
  sets = sets_from heap (is_single (text_of heap names)) (ids_given heap mark) 0 (values_in_row (row_at heap rows));
}

-- a mark without names and rows gives nothing
abbrev pub by_arguments : List Obj → MarkObj → List Value → List Parametrization
by_arguments heap mark (names ∷ rows ∷ vs) = parametrized_by heap names rows mark ∷ []
by_arguments heap mark (names ∷ []) = []
by_arguments heap mark [] = []

-- what one mark gives
abbrev pub parametrized : List Obj → MarkObj → List Parametrization
parametrized heap mark = by_arguments heap mark mark.args

-- WHAT THE `parametrize` MARKS among some values give, in order
unfoldable pub parametrizations : List Obj → List Value → List Parametrization
parametrizations heap marks = flat_map (parametrized heap) (filter (is_called (codes "parametrize")) (marks_in heap marks))

-- PARAMS OF FIXTURES

abbrev pub fixture_sets : List Obj → Option (List Value) → List Value → List (ParamSet Value)
fixture_sets heap ids vs = sets_from heap true (map (text_of heap) (values_in_row ids)) 0 vs

-- THE PARAMETERS of a fixture, where it has any
unfoldable pub fixture_params : List Obj → FixtureObj → Option (List (ParamSet Value))
fixture_params heap x = option_map (fixture_sets heap x.ids) x.params
