-- WHAT DEFINES FIXTURES (pytest's how-to guide, "How to use fixtures", and its reference, "Fixtures"): names that are bound to what
-- `fixture` made of a function, in modules, in classes of tests, and in conftests.
use Rattle.std.specs.Prelude.{ℕ, Bool, true, false, List, [], ◌∷◌, ◌++◌, Option, Some, None, slice_get, if◌then◌else◌}
use Rattle.std.specs.List.{flat_map}
use Rattle.collect_names.specs.Found.{is_class_node}
use Rattle.collect_names.specs.Objects.{object_in, function_at, class_at, names_of_class}
use Rattle.collect_params.specs.Given.{fixture_params}
use Rattle.collect_words.specs.Paths.{is_conftest}
use Rattle.collect_words.specs.Walks.{path_at}
use Rattle.collection_nodes.specs.Tree.{class_node, file_path, folder_node, names_of_file, outer_folder}
use Rattle.collection_nodes.specs.declared.placed_file.PlacedFile.{PlacedFile}
use Rattle.collection_nodes.specs.declared.test_file.TestFile.{TestFile}
use Rattle.py_values.specs.declared.object.FixtureObj.{FixtureObj}
use Rattle.py_values.specs.declared.object.FixtureScope.{FixtureScope}
use Rattle.py_values.specs.declared.object.FixtureScope.TheVariants as scope
use Rattle.py_values.specs.declared.object.FunctionObj.{FunctionObj}
use Rattle.py_values.specs.declared.object.Obj.{Obj}
use Rattle.py_values.specs.declared.object.Obj.TheVariants as obj
use Rattle.py_values.specs.declared.value.ObjId.{ObjId}
use Rattle.py_values.specs.declared.value.Value.{Value}
use Rattle.py_values.specs.declared.value.Value.TheVariants as val
use Rattle.session_types.specs.declared.scope.Scope.{Scope}
use Rattle.session_types.specs.declared.scope.Scope.TheVariants.{Session, Module, Class, Function}
use Rattle.test_suite.specs.declared.fixture.Fixture.{Fixture}
use Rattle.fixture_definitions.specs.Arguments.{asked_params, defined_at, is_request}
use Rattle.fixture_definitions.specs.declared.found.Definition.{Definition}

-- what `fixture` made
abbrev pub fixture_in : Option Obj → Option FixtureObj
fixture_in (Some (obj.Fixture x)) = Some x
fixture_in (Some (obj.Text x)) = None
fixture_in (Some (obj.List x)) = None
fixture_in (Some (obj.Tuple x)) = None
fixture_in (Some (obj.Dict x)) = None
fixture_in (Some (obj.Range x)) = None
fixture_in (Some (obj.Function x)) = None
fixture_in (Some (obj.Method x)) = None
fixture_in (Some (obj.Builtin x)) = None
fixture_in (Some (obj.Class x)) = None
fixture_in (Some (obj.Instance x)) = None
fixture_in (Some (obj.Exception x)) = None
fixture_in (Some (obj.Module x)) = None
fixture_in (Some obj.MarkMaker) = None
fixture_in (Some (obj.Mark x)) = None
fixture_in (Some (obj.Hook x)) = None
fixture_in (Some (obj.Param x)) = None
fixture_in (Some (obj.Request x)) = None
fixture_in (Some (obj.Raises x)) = None
fixture_in (Some (obj.Info x)) = None
fixture_in (Some (obj.Item x)) = None
fixture_in None = None

-- the scope that its text names
abbrev pub scope_kept : FixtureScope → Scope
scope_kept scope.Session = Session
scope_kept scope.Module = Module
scope_kept scope.Class = Class
scope_kept scope.Function = Function

-- a fixture has the name that `name=` gives, or else the name that is bound to it
abbrev pub name_or : List ℕ → Option (List ℕ) → List ℕ
name_or bound (Some name) = name
name_or bound None = bound

abbrev pub fixture_made : Bool → List ℕ → FixtureObj → ObjId → FunctionObj → Fixture
fixture_made in_class bound x id f = record {
  name = name_or bound x.name;
  function = val.Ref id;
  in_class = in_class;
  arguments = asked_params in_class f.params;
  scope = scope_kept x.scope;
  yields = f.yields;
  defined = defined_at (Some f);
}

-- the name `request` is none of a fixture
abbrev pub unless_request : Definition → List Definition
unless_request d = if is_request d.fixture.name then [] else d ∷ []

abbrev pub definition_made : List Obj → ℕ → Bool → List ℕ → FixtureObj → ObjId → FunctionObj → Definition
definition_made heap node in_class bound x id f = record {
  fixture = fixture_made in_class bound x id f;
  autouse = x.autouse;
  node = node;
  params = fixture_params heap x;
}

-- it defines a fixture where it was applied to a function
abbrev pub for_function : List Obj → ℕ → Bool → List ℕ → FixtureObj → ObjId → Option FunctionObj → List Definition
for_function heap node in_class bound x id (Some f) = unless_request (definition_made heap node in_class bound x id f)
for_function heap node in_class bound x id None = []

abbrev pub for_applied : List Obj → ℕ → Bool → List ℕ → FixtureObj → Option ObjId → List Definition
for_applied heap node in_class bound x (Some id) = for_function heap node in_class bound x id (function_at (slice_get heap id.at))
for_applied heap node in_class bound x None = []

abbrev pub for_fixture : List Obj → ℕ → Bool → List ℕ → Option FixtureObj → List Definition
for_fixture heap node in_class bound (Some x) = for_applied heap node in_class bound x x.function
for_fixture heap node in_class bound None = []

-- what a name defines at a node
abbrev pub defined_by : List Obj → ℕ → Bool → List ℕ × Value → List Definition
defined_by heap node in_class entry = for_fixture heap node in_class entry.0 (fixture_in (object_in heap entry.1))

-- what names define, in order of first binding; imported ones too
abbrev pub defined_among : List Obj → ℕ → Bool → List (List ℕ × Value) → List Definition
defined_among heap node in_class names = flat_map (defined_by heap node in_class) names

-- what a class of tests defines, at its node
abbrev pub defined_in_class : List Obj → PlacedFile → List ℕ × Value → List Definition
defined_in_class heap placed entry = defined_among heap (class_node heap placed entry.0) true (names_of_class (class_at (object_in heap entry.1)))

-- where a name is bound to one
abbrev pub class_defines : List Obj → PlacedFile → List ℕ × Value → List Definition
class_defines heap placed entry = if is_class_node heap entry then defined_in_class heap placed entry else []

abbrev pub defined_in_classes : List Obj → PlacedFile → List Definition
defined_in_classes heap placed = flat_map (class_defines heap placed) (names_of_file heap placed.file)

-- what the module of a test file defines, at the file's node; a conftest defines at its folder
abbrev pub defined_in_module : List Obj → List (List ℕ) → PlacedFile → List Definition
defined_in_module heap walk placed = if is_conftest (path_at walk placed.file.place) then [] else defined_among heap placed.node false (names_of_file heap placed.file)

-- a test file: its module, then its classes
abbrev pub defined_in_file : List Obj → List (List ℕ) → PlacedFile → List Definition
defined_in_file heap walk placed = defined_in_module heap walk placed ++ defined_in_classes heap placed

-- what a conftest defines, at its folder's node
abbrev pub defined_in_conftest : List Obj → List (List ℕ) → List (List ℕ) → TestFile → List Definition
defined_in_conftest heap walk folders conftest = defined_among heap (folder_node folders (outer_folder (file_path walk conftest))) false (names_of_file heap conftest)

-- THE DEFINITIONS, by number: those of the conftests in the order of their loads, and then file by file
unfoldable pub all_definitions : List Obj → List (List ℕ) → List (List ℕ) → List TestFile → List PlacedFile → List Definition
all_definitions heap walk folders conftests placed = flat_map (defined_in_conftest heap walk folders) conftests ++ flat_map (defined_in_file heap walk) placed
