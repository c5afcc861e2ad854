-- THE ROWS OF A TEST (pytest's how-to guide, "How to parametrize fixtures and test functions"): each choice of one parameter of each
-- parametrised fixture of its closure, in the order of the closure, and one set of each `parametrize`, the nearest first; the first list is
-- the outermost.
use Rattle.std.specs.Prelude.{ℕ, ◌&&◌, true, false, List, [], ◌∷◌, ◌++◌, Option, Some, None, codes, encode_utf8_all, length, map, nat_eq, slice_get, if◌then◌else◌}
use Rattle.std.specs.Fmt.{decimal}
use Rattle.std.specs.List.{enumerate_from, flat_map}
use Rattle.std.specs.Option.{option_or}
use Rattle.collect_fixtures.specs.Closures.{closure_if, item_needs}
use Rattle.collect_fixtures.specs.Tables.{all_numbers, names_bound}
use Rattle.collection_nodes.specs.Texts.{text_numbered}
use Rattle.fixture_definitions.specs.Arguments.{but_request}
use Rattle.fixture_definitions.specs.collect_params.Values.{param_ids, set_ids}
use Rattle.fixture_definitions.specs.collect_params.declared.given.Parametrization.{Parametrization}
use Rattle.fixture_definitions.specs.collect_params.param_rows.Faults.{marks_fault, size_fault}
use Rattle.fixture_definitions.specs.collect_params.param_rows.Ids.{Id}
use Rattle.fixture_definitions.specs.collect_params.param_rows.Rows.{ParameterSet, chosen_row, is_named, mark_choices, param_choice, product}
use Rattle.fixture_definitions.specs.collect_params.param_rows.declared.fault.RowFault.{RowFault}
use Rattle.fixture_definitions.specs.collect_params.param_rows.declared.fault.RowFault.TheVariants.{Width, Duplicate, NoArgument, TooMany, OutOfMemory}
use Rattle.fixture_definitions.specs.collect_params.param_rows.declared.param.ParamMark.{ParamMark}
use Rattle.fixture_definitions.specs.collect_params.param_rows.declared.param.ParamRow.{ParamRow}
use Rattle.fixture_definitions.specs.collect_params.param_rows.declared.param.ParamSet.{ParamSet}
use Rattle.fixture_definitions.specs.declared.found.Definition.{Definition}
use Rattle.fixture_definitions.specs.declared.found.FoundTest.{FoundTest}
use Rattle.fixture_table.specs.Nearest.{def_at, is_visible}
use Rattle.fixture_table.specs.Tables.{TableValue}
use Rattle.fixture_table.specs.declared.types.FixtureDef.{FixtureDef}
use Rattle.py_values.specs.declared.object.Obj.{Obj}
use Rattle.py_values.specs.declared.value.Value.{Value}
use Rattle.py_values.specs.declared.value.Value.TheVariants as val
use Rattle.test_suite.specs.declared.item.BoundArgument.{BoundArgument}
use Rattle.test_suite.specs.declared.item.FixtureParam.{FixtureParam}
use Rattle.collect_rows.specs.declared.row.ItemRow.{ItemRow}
use Rattle.collect_rows.specs.declared.row.TestRows.{TestRows}
use Rattle.collect_rows.specs.declared.row.TestRows.TheVariants.{Rows, Fault}

-- THE LISTS

-- the ids of a set's list stand beside the sets
abbrev pub with_id : ParamSet Value → Id → ParamSet Value
with_id set id = record { values = set.values; id = Some id; marks = set.marks }

abbrev pub with_ids : List (ParamSet Value) → List Id → List (ParamSet Value)
with_ids [] ids = []
with_ids (set ∷ sets) [] = []
with_ids (set ∷ sets) (id ∷ ids) = with_id set id ∷ with_ids sets ids

-- a `parametrize`, its names by number and its sets with their ids
abbrev pub mark_of : List Obj → List (List ℕ) → Parametrization → ParamMark Value
mark_of heap names p = record { names = all_numbers names p.names; sets = with_ids p.sets (set_ids heap p.names p.sets) }

-- the ids of the parameters of a definition, where it has any
abbrev pub ids_if : List Obj → ℕ → List ℕ → Option (List (ParamSet Value)) → List (ℕ × List Id)
ids_if heap d name (Some sets) = (d, param_ids heap name sets) ∷ []
ids_if heap d name None = []

abbrev pub ids_of_definition : List Obj → ℕ → Option Definition → List (ℕ × List Id)
ids_of_definition heap d (Some one) = ids_if heap d one.fixture.name one.params
ids_of_definition heap d None = []

-- the parametrised definitions of a closure, each with the ids of its parameters
abbrev pub ids_at : List Obj → List Definition → ℕ → List (ℕ × List Id)
ids_at heap definitions d = ids_of_definition heap d (slice_get definitions d)

abbrev pub closure_or_none : Option (List ℕ) → List ℕ
closure_or_none (Some closure) = closure
closure_or_none None = []

abbrev pub fixture_lists : List Obj → List Definition → Option (List ℕ) → List (ℕ × List Id)
fixture_lists heap definitions closure = flat_map (ids_at heap definitions) (closure_or_none closure)

-- WHO ASKS: the names that may be bound

abbrev pub autouse_name : TableValue → ℕ → FixtureDef → List ℕ
autouse_name table item one = if one.autouse && is_visible table.nodes one item then one.name ∷ [] else []

abbrev pub names_asked_by : TableValue → ℕ → List ℕ
names_asked_by table d = (def_at table.defs d).args

-- those of a test: what it uses, and its arguments
abbrev pub own_names : List (List ℕ) → FoundTest → List ℕ
own_names names t = all_numbers names t.uses ++ all_numbers names (but_request t.arguments)

-- also the autouse fixtures, and the arguments of the closure; where the closure has a fault, its own alone
abbrev pub names_known : TableValue → List (List ℕ) → ℕ → FoundTest → Option (List ℕ) → List ℕ
names_known table names item t (Some closure) = own_names names t ++ (flat_map (autouse_name table item) table.defs ++ flat_map (names_asked_by table) closure)
names_known table names item t None = own_names names t

-- THE ROWS

abbrev pub list_choices : ℕ × List Id → List (ParameterSet Value)
list_choices fixture = map (param_choice fixture.0) (enumerate_from 0 fixture.1)

-- one of each list, in every way
abbrev pub rows_over : List (ℕ × List Id) → List (ParamMark Value) → List (ParamRow Value)
rows_over fixtures marks = map (chosen_row (is_named marks)) (product (map list_choices fixtures ++ map mark_choices marks))

-- the first fault of a test's `parametrize` marks, and then that there are too many rows
abbrev pub rows_fault : List (ℕ × List Id) → List (ParamMark Value) → List ℕ → Option RowFault
rows_fault fixtures marks known = option_or (marks_fault known [] marks) (size_fault (length (rows_over fixtures marks)))

-- the text of a fault
abbrev pub fault_said : List (List ℕ) → RowFault → List ℕ
fault_said names (Width wanted given) = codes "expected " ++ (decimal wanted ++ (codes " values, got " ++ decimal given))
fault_said names (Duplicate name) = codes "duplicate parameter '" ++ (text_numbered names name ++ codes "'")
fault_said names (NoArgument name) = codes "no argument '" ++ (text_numbered names name ++ codes "'")
fault_said names TooMany = codes "too many items"
fault_said names OutOfMemory = []

abbrev pub fault_text : List (List ℕ) → RowFault → List ℕ
fault_text names fault = codes "ValueError: " ++ fault_said names fault

-- WHAT A ROW GIVES AN ITEM

abbrev pub bound_by : List (List ℕ) → ℕ × Value → BoundArgument
bound_by names pair = record { name = text_numbered names pair.0; number = pair.0; value = pair.1 }

-- the parameter of a fixture is the first value of its set
abbrev pub first_value : List Value → Value
first_value (v ∷ vs) = v
first_value [] = val.None

abbrev pub value_of_set : Option (ParamSet Value) → Value
value_of_set (Some set) = first_value set.values
value_of_set None = val.None

abbrev pub marks_of_set : Option (ParamSet Value) → List Value
marks_of_set (Some set) = set.marks
marks_of_set None = []

abbrev pub set_in : Option (List (ParamSet Value)) → ℕ → Option (ParamSet Value)
set_in (Some sets) number = slice_get sets number
set_in None number = None

abbrev pub set_of_definition : Option Definition → ℕ → Option (ParamSet Value)
set_of_definition (Some one) number = set_in one.params number
set_of_definition None number = None

-- the set of a definition with a number
abbrev pub set_at : List Definition → ℕ × ℕ → Option (ParamSet Value)
set_at definitions pair = set_of_definition (slice_get definitions pair.0) pair.1

abbrev pub id_or_empty : Option Id → Id
id_or_empty (Some id) = id
id_or_empty None = []

-- the id of a parameter among the lists
abbrev pub id_among : List (ℕ × List Id) → ℕ → ℕ → Id
id_among [] d number = []
id_among (fixture ∷ fixtures) d number = if nat_eq d fixture.0 then id_or_empty (slice_get fixture.1 number) else id_among fixtures d number

abbrev pub param_given : List Definition → List (ℕ × List Id) → ℕ × ℕ → FixtureParam
param_given definitions fixtures pair = record {
  def = pair.0;
  number = pair.1;
  value = value_of_set (set_at definitions pair);
  id = encode_utf8_all (id_among fixtures pair.0 pair.1);
}

abbrev pub marks_given : List Definition → ℕ × ℕ → List Value
marks_given definitions pair = marks_of_set (set_at definitions pair)

-- the marks of a row: those of its parameters, then those of its sets
abbrev pub row_given : List (List ℕ) → List Definition → List (ℕ × List Id) → ParamRow Value → ItemRow
row_given names definitions fixtures row = record {
  bound = map (bound_by names) row.bound;
  params = map (param_given definitions fixtures) row.fixture_params;
  marks = flat_map (marks_given definitions) row.fixture_params ++ row.marks;
  id = row.id;
  empty = false;
}

abbrev pub bound_to_none : List (List ℕ) → ℕ → BoundArgument
bound_to_none names number = bound_by names (number, val.None)

-- what stands for an empty list
abbrev pub empty_row : List (List ℕ) → List ℕ → ItemRow
empty_row names bound = record { bound = map (bound_to_none names) bound; params = []; marks = []; id = Some (codes "NOTSET"); empty = true }

abbrev pub rows_or_empty : List (List ℕ) → List ℕ → List ItemRow → List ItemRow
rows_or_empty names bound [] = empty_row names bound ∷ []
rows_or_empty names bound (row ∷ rows) = row ∷ rows

abbrev pub rows_unless : List (List ℕ) → Option RowFault → List ItemRow → TestRows
rows_unless names None rows = Rows rows
rows_unless names (Some fault) rows = Fault (fault_text names fault)

module _ (heap : List Obj) (table : TableValue) (names : List (List ℕ)) (definitions : List Definition) where
  -- the rows of these lists, or their fault
  abbrev pub rows_of_lists : List ℕ → List ℕ → List (ℕ × List Id) → List (ParamMark Value) → TestRows
  rows_of_lists bound known fixtures marks =
      rows_unless names (rows_fault fixtures marks known) (rows_or_empty names bound (map (row_given names definitions fixtures) (rows_over fixtures marks)))

  -- the numbers of the names that a test's rows bind
  abbrev pub numbers_bound : FoundTest → List ℕ
  numbers_bound t = all_numbers names (names_bound t)

  abbrev pub rows_with : ℕ → FoundTest → Option (List ℕ) → TestRows
  rows_with item t closure =
      rows_of_lists (numbers_bound t) (names_known table names item t closure) (fixture_lists heap definitions closure) (map (mark_of heap names) t.parametrized)

  -- THE ROWS of a test at a node, or their fault
  unfoldable pub test_rows : ℕ → FoundTest → TestRows
  test_rows item t = rows_with item t (closure_if (item_needs table names item (numbers_bound t) t.uses t.arguments))
