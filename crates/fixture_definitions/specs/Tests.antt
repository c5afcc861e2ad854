-- THE TESTS of the test files, each with the names for which fixtures are looked for.
use Rattle.std.specs.Prelude.{ℕ, Bool, true, false, List, Option, Some, None, codes, count_by, map}
use Rattle.std.specs.List.{filter, filter_map, flat_map}
use Rattle.collect_marks.specs.Given.{is_mark_value, item_marks, of_function}
use Rattle.collect_marks.specs.Names.{marks_in}
use Rattle.collect_marks.specs.Says.{is_called}
use Rattle.collect_names.specs.Found.{test_functions}
use Rattle.collect_names.specs.Objects.{object_in, function_at}
use Rattle.collect_names.specs.declared.found.TestClass.{TestClass}
use Rattle.collect_names.specs.declared.found.TestFunction.{TestFunction}
use Rattle.collect_params.specs.Given.{parametrizations}
use Rattle.collection_nodes.specs.Tree.{class_node, names_of_file}
use Rattle.collection_nodes.specs.declared.placed_file.PlacedFile.{PlacedFile}
use Rattle.py_values.specs.declared.object.FunctionObj.{FunctionObj}
use Rattle.py_values.specs.declared.object.MarkObj.{MarkObj}
use Rattle.py_values.specs.declared.object.Obj.{Obj}
use Rattle.py_values.specs.declared.object.Obj.TheVariants as obj
use Rattle.py_values.specs.declared.value.Value.{Value}
use Rattle.fixture_definitions.specs.Arguments.{but_request, arguments_asked}
use Rattle.fixture_definitions.specs.declared.found.FoundTest.{FoundTest}

-- the text that an object is
abbrev pub text_in : Option Obj → Option (List ℕ)
text_in (Some (obj.Text x)) = Some x
text_in (Some (obj.Fixture x)) = None
text_in (Some (obj.List x)) = None
text_in (Some (obj.Tuple x)) = None
text_in (Some (obj.Dict x)) = None
text_in (Some (obj.Range x)) = None
text_in (Some (obj.Function x)) = None
text_in (Some (obj.Method x)) = None
text_in (Some (obj.Builtin x)) = None
text_in (Some (obj.Class x)) = None
text_in (Some (obj.Instance x)) = None
text_in (Some (obj.Exception x)) = None
text_in (Some (obj.Module x)) = None
text_in (Some obj.MarkMaker) = None
text_in (Some (obj.Mark x)) = None
text_in (Some (obj.Hook x)) = None
text_in (Some (obj.Param x)) = None
text_in (Some (obj.Request x)) = None
text_in (Some (obj.Raises x)) = None
text_in (Some (obj.Info x)) = None
text_in (Some (obj.Item x)) = None
text_in None = None

-- the texts among the arguments of a `usefixtures` (pytest's reference, "pytest.mark.usefixtures")
abbrev pub used_by : List Obj → MarkObj → List (List ℕ)
used_by heap mark = filter_map (λ v. text_in (object_in heap v)) mark.args

-- what the marks among some values use
abbrev pub used_among : List Obj → List Value → List (List ℕ)
used_among heap marks = flat_map (used_by heap) (filter (is_called (codes "usefixtures")) (marks_in heap marks))

-- THE NAMES THAT MARKS USE, in the order of the marks; `request` is none
abbrev pub uses_of : List Obj → List Value → List (List ℕ)
uses_of heap marks = but_request (used_among heap marks)

abbrev pub stands_in_class : Option TestClass → Bool
stands_in_class (Some class) = true
stands_in_class None = false

-- a test stands under its class, or under its file
abbrev pub parent_of_test : List Obj → PlacedFile → Option TestClass → ℕ
parent_of_test heap placed (Some class) = class_node heap placed class.name
parent_of_test heap placed None = placed.node

-- how many marks a function has
abbrev pub near_count : List Obj → Option FunctionObj → ℕ
near_count heap f = count_by (is_mark_value heap) (of_function f)

abbrev pub found_test : List Obj → PlacedFile → List Value → TestFunction → FoundTest
found_test heap placed marks test = record {
  test = test;
  place = placed.file.place;
  parent = parent_of_test heap placed test.class;
  marks = marks;
  near = near_count heap (function_at (object_in heap test.function));
  parametrized = parametrizations heap marks;
  uses = uses_of heap marks;
  arguments = arguments_asked (stands_in_class test.class) (function_at (object_in heap test.function));
}

abbrev pub test_in : List Obj → PlacedFile → TestFunction → FoundTest
test_in heap placed test = found_test heap placed (item_marks heap test (names_of_file heap placed.file)) test

-- THE TESTS OF A FILE, in order
unfoldable pub tests_of : List Obj → PlacedFile → List FoundTest
tests_of heap placed = map (test_in heap placed) (test_functions heap (names_of_file heap placed.file))

-- ALL TESTS, by number, file by file
abbrev pub all_tests : List Obj → List PlacedFile → List FoundTest
all_tests heap placed = flat_map (tests_of heap) placed
