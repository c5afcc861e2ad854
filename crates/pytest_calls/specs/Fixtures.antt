-- `fixture(scope=, params=, autouse=, ids=, name=)` (pytest's reference, `pytest.fixture`). It costs nothing.
use Rattle.std.specs.Prelude.{ℕ, Bool, List, codes, if◌then◌else◌, Option, Some, None, is_some}
use Rattle.pytest_arguments.specs.call_products.Products.{plain}
use Rattle.pytest_arguments.specs.call_products.declared.product.Product.{Product}
use Rattle.pytest_arguments.specs.py_operands.Texts.{text_of}
use Rattle.py_values.specs.Names.{name_eq}
use Rattle.py_values.specs.declared.end.Effect.TheVariants.{New}
use Rattle.py_values.specs.declared.object.FixtureObj.{FixtureObj}
use Rattle.py_values.specs.declared.object.FixtureScope.{FixtureScope}
use Rattle.py_values.specs.declared.object.FixtureScope.TheVariants as scope
use Rattle.py_values.specs.declared.object.Obj.{Obj}
use Rattle.py_values.specs.declared.object.Obj.TheVariants as obj
use Rattle.py_values.specs.declared.value.Value.{Value}
use Rattle.pytest_arguments.specs.declared.form.Argument.{Argument}
use Rattle.pytest_arguments.specs.declared.form.Argument.TheVariants as arg
use Rattle.pytest_arguments.specs.Forms.{named_value, bad_unless, unless_bad}
use Rattle.pytest_arguments.specs.Given.{if_given, unless_none, is_boolean, is_text_value, is_row, are_ids, boolean_given, text_given, row_given}

abbrev pub scope_named : List ℕ → Option FixtureScope
scope_named t =
    if name_eq (codes "session") t then Some scope.Session
    else if name_eq (codes "module") t then Some scope.Module
    else if name_eq (codes "class") t then Some scope.Class
    else if name_eq (codes "function") t then Some scope.Function
    else None

abbrev pub scope_in : Option (List ℕ) → Option FixtureScope
scope_in (Some t) = scope_named t
scope_in None = None

abbrev pub scope_at : List Obj → Value → Option FixtureScope
scope_at heap v = scope_in (text_of heap v)

abbrev pub is_scope : List Obj → Value → Bool
is_scope heap v = is_some (scope_at heap v)

abbrev pub scope_or_function : Option FixtureScope → FixtureScope
scope_or_function (Some s) = s
scope_or_function None = scope.Function

abbrev pub scope_given : List Obj → Option Value → FixtureScope
scope_given heap (Some v) = scope_or_function (scope_at heap v)
scope_given heap None = scope.Function

-- the first argument that is bad
unfoldable pub fixture_bad : List Obj → List (List ℕ × Value) → Option Argument
fixture_bad heap named =
    bad_unless (if_given (is_scope heap) (named_value arg.Scope named)) arg.Scope
    (bad_unless (if_given (unless_none (is_row heap)) (named_value arg.Params named)) arg.Params
    (bad_unless (if_given is_boolean (named_value arg.AutoUse named)) arg.AutoUse
    (bad_unless (if_given (unless_none (are_ids heap)) (named_value arg.Ids named)) arg.Ids
    (bad_unless (if_given (unless_none (is_text_value heap)) (named_value arg.Name named)) arg.Name None))))

-- a fixture that is applied to no function yet; the elements of its parameters and of its ids are those of now
unfoldable pub fixture_object : List Obj → List (List ℕ × Value) → FixtureObj
fixture_object heap named = record {
  function = None;
  scope = scope_given heap (named_value arg.Scope named);
  params = row_given heap (named_value arg.Params named);
  autouse = boolean_given (named_value arg.AutoUse named);
  ids = row_given heap (named_value arg.Ids named);
  name = text_given heap (named_value arg.Name named);
}

-- THE CALL
abbrev pub fixture_called : List Obj → List (List ℕ × Value) → Product
fixture_called heap named = unless_bad (fixture_bad heap named) (plain (New (obj.Fixture (fixture_object heap named)) 0))
