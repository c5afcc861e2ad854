-- What collection finds among the names of a module (pytest's "Conventions for Python test discovery"). The name to which a thing is
-- bound counts, whatever it is called where it was defined.
use Rattle.std.specs.Prelude.{ℕ, Bool, ◌&&◌, List, [], ◌∷◌, Option, Some, None, codes, is_some, nat_eq, map, if◌then◌else◌}
use Rattle.std.specs.List.{starts_with, filter, flat_map}
use Rattle.collect_names.specs.Objects.{object_in, function_at, class_at, holds_tests, names_of_class}
use Rattle.collect_names.specs.declared.found.TestClass.{TestClass}
use Rattle.collect_names.specs.declared.found.TestFunction.{TestFunction}
use Rattle.py_values.specs.declared.object.Obj.{Obj}
use Rattle.py_values.specs.declared.value.Value.{Value}

-- a name that is bound to a test function: it begins with `test`
abbrev pub is_test_function : List Obj → List ℕ × Value → Bool
is_test_function heap entry = starts_with nat_eq entry.0 (codes "test") && is_some (function_at (object_in heap entry.1))

-- a name that is bound to a class of tests: it begins with `Test`
abbrev pub is_class_node : List Obj → List ℕ × Value → Bool
is_class_node heap entry = starts_with nat_eq entry.0 (codes "Test") && holds_tests heap entry.1 (class_at (object_in heap entry.1))

abbrev pub test_class : List ℕ × Value → TestClass
test_class entry = record { name = entry.0; object = entry.1 }

abbrev pub test_function : Option TestClass → List ℕ × Value → TestFunction
test_function class entry = record { class = class; name = entry.0; function = entry.1 }

-- the test functions among some names, in order of first binding
abbrev pub tests_among : List Obj → Option TestClass → List (List ℕ × Value) → List TestFunction
tests_among heap class names = map (test_function class) (filter (is_test_function heap) names)

-- the methods of a class of tests
abbrev pub methods_of : List Obj → List ℕ × Value → List TestFunction
methods_of heap entry = tests_among heap (Some (test_class entry)) (names_of_class (class_at (object_in heap entry.1)))

-- what a name of a module gives: itself, or the methods of its class
abbrev pub tests_under : List Obj → List ℕ × Value → List TestFunction
tests_under heap entry =
    if is_test_function heap entry then test_function None entry ∷ []
    else (if is_class_node heap entry then methods_of heap entry else [])

-- THE TEST FUNCTIONS OF A MODULE, of its names in order of first binding; those of a class stand in its place
unfoldable pub test_functions : List Obj → List (List ℕ × Value) → List TestFunction
test_functions heap names = flat_map (tests_under heap) names

-- THE CLASSES OF TESTS OF A MODULE, by name, those without tests too
abbrev pub class_nodes : List Obj → List (List ℕ × Value) → List (List ℕ)
class_nodes heap names = map (λ entry. entry.0) (filter (is_class_node heap) names)
