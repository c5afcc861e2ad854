-- The names of an item by which it is selected (pytest's reference, "Command-line Flags": `-k` and `-m`).
use Rattle.std.specs.Prelude.{ℕ, Bool, List, [], ◌∷◌, ◌++◌, ◌==◌, Option, Some, None, map}
use Rattle.std.specs.List.{filter_map, slice_split}
use Rattle.collect_marks.specs.Given.{mark_in}
use Rattle.collect_names.specs.Ids.{item_name}
use Rattle.collect_names.specs.declared.found.TestClass.{TestClass}
use Rattle.collect_names.specs.declared.found.TestFunction.{TestFunction}
use Rattle.py_values.specs.declared.object.MarkObj.{MarkObj}
use Rattle.py_values.specs.declared.object.Obj.{Obj}
use Rattle.py_values.specs.declared.value.Value.{Value}

-- the marks that values are
abbrev pub marks_in : List Obj → List Value → List MarkObj
marks_in heap vs = filter_map (mark_in heap) vs

abbrev pub mark_name : MarkObj → List ℕ
mark_name mark = mark.name

-- WHAT `-m` LOOKS AT: the names of an item's marks
unfoldable pub mark_names : List Obj → List Value → List (List ℕ)
mark_names heap marks = map mark_name (marks_in heap marks)

abbrev pub parts_path : ℕ → Bool
parts_path letter = letter == 47

abbrev pub class_name_of : Option TestClass → List (List ℕ)
class_name_of (Some c) = c.name ∷ []
class_name_of None = []

-- WHAT `-k` LOOKS AT: the names of the folders on the file's path and of the file, of the class, of the item with its id, and of its marks
unfoldable pub keyword_names : List Obj → List ℕ → TestFunction → Option (List ℕ) → List Value → List (List ℕ)
keyword_names heap path test id marks =
    slice_split parts_path path ++ (class_name_of test.class ++ (item_name test id ∷ mark_names heap marks))
