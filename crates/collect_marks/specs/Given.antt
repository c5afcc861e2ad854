-- The marks of an item, nearest first (pytest's how-to guide, "Marking whole classes or modules").
use Rattle.std.specs.Prelude.{ℕ, Bool, List, [], ◌∷◌, ◌++◌, Option, Some, None, codes, is_some}
use Rattle.std.specs.List.{filter}
use Rattle.collect_names.specs.Objects.{object_in, function_at, class_at}
use Rattle.collect_names.specs.declared.found.TestClass.{TestClass}
use Rattle.collect_names.specs.declared.found.TestFunction.{TestFunction}
use Rattle.py_values.specs.Names.{find_name}
use Rattle.py_values.specs.declared.object.ClassObj.{ClassObj}
use Rattle.py_values.specs.declared.object.FunctionObj.{FunctionObj}
use Rattle.py_values.specs.declared.object.MarkObj.{MarkObj}
use Rattle.py_values.specs.declared.object.Obj.{Obj}
use Rattle.py_values.specs.declared.object.Obj.TheVariants as obj
use Rattle.py_values.specs.declared.value.Value.{Value}

-- the mark that an object is
abbrev pub mark_at : Option Obj → Option MarkObj
mark_at (Some (obj.Mark x)) = Some x
mark_at (Some (obj.Text x)) = None
mark_at (Some (obj.List x)) = None
mark_at (Some (obj.Tuple x)) = None
mark_at (Some (obj.Dict x)) = None
mark_at (Some (obj.Range x)) = None
mark_at (Some (obj.Function x)) = None
mark_at (Some (obj.Method x)) = None
mark_at (Some (obj.Builtin x)) = None
mark_at (Some (obj.Class x)) = None
mark_at (Some (obj.Instance x)) = None
mark_at (Some (obj.Exception x)) = None
mark_at (Some (obj.Module x)) = None
mark_at (Some (obj.Fixture x)) = None
mark_at (Some obj.MarkMaker) = None
mark_at (Some (obj.Hook x)) = None
mark_at (Some (obj.Param x)) = None
mark_at (Some (obj.Request x)) = None
mark_at (Some (obj.Raises x)) = None
mark_at (Some (obj.Info x)) = None
mark_at (Some (obj.Item x)) = None
mark_at None = None

abbrev pub mark_in : List Obj → Value → Option MarkObj
mark_in heap v = mark_at (object_in heap v)

abbrev pub is_mark_value : List Obj → Value → Bool
is_mark_value heap v = is_some (mark_in heap v)

-- the values of a list, or the value itself
abbrev pub values_given : Value → Option Obj → List Value
values_given v (Some (obj.List vs)) = vs
values_given v (Some (obj.Text x)) = v ∷ []
values_given v (Some (obj.Tuple x)) = v ∷ []
values_given v (Some (obj.Dict x)) = v ∷ []
values_given v (Some (obj.Range x)) = v ∷ []
values_given v (Some (obj.Function x)) = v ∷ []
values_given v (Some (obj.Method x)) = v ∷ []
values_given v (Some (obj.Builtin x)) = v ∷ []
values_given v (Some (obj.Class x)) = v ∷ []
values_given v (Some (obj.Instance x)) = v ∷ []
values_given v (Some (obj.Exception x)) = v ∷ []
values_given v (Some (obj.Module x)) = v ∷ []
values_given v (Some (obj.Fixture x)) = v ∷ []
values_given v (Some obj.MarkMaker) = v ∷ []
values_given v (Some (obj.Mark x)) = v ∷ []
values_given v (Some (obj.Hook x)) = v ∷ []
values_given v (Some (obj.Param x)) = v ∷ []
values_given v (Some (obj.Request x)) = v ∷ []
values_given v (Some (obj.Raises x)) = v ∷ []
values_given v (Some (obj.Info x)) = v ∷ []
values_given v (Some (obj.Item x)) = v ∷ []
values_given v None = v ∷ []

abbrev pub given_if : List Obj → Option Value → List Value
given_if heap (Some v) = values_given v (object_in heap v)
given_if heap None = []

-- what `pytestmark` gives among some names: a mark, or a list of marks
abbrev pub by_pytestmark : List Obj → List (List ℕ × Value) → List Value
by_pytestmark heap names = given_if heap (find_name (codes "pytestmark") names)

-- the decorators of a function, nearest first
abbrev pub of_function : Option FunctionObj → List Value
of_function (Some f) = f.marks
of_function None = []

-- a class's `pytestmark` comes before its decorators, nearest first
abbrev pub of_class : List Obj → Option ClassObj → List Value
of_class heap (Some c) = by_pytestmark heap c.names ++ c.marks
of_class heap None = []

abbrev pub of_test_class : List Obj → Option TestClass → List Value
of_test_class heap (Some c) = of_class heap (class_at (object_in heap c.object))
of_test_class heap None = []

-- THE MARKS OF AN ITEM: its function's, then its class's, then those of the `pytestmark` of its module, whose names these are. What is
-- no mark is passed over.
unfoldable pub item_marks : List Obj → TestFunction → List (List ℕ × Value) → List Value
item_marks heap test names =
    filter (is_mark_value heap)
    (of_function (function_at (object_in heap test.function)) ++ (of_test_class heap test.class ++ by_pytestmark heap names))
