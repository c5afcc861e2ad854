-- The functions of `pytest`, and `request.addfinalizer` (pytest's reference).
use Rattle.std.specs.Prelude.{ℕ, List, if◌then◌else◌}
use Rattle.pytest_arguments.specs.call_products.Arguments.{pair}
use Rattle.pytest_arguments.specs.call_products.Products.{wrong}
use Rattle.pytest_arguments.specs.call_products.declared.product.Product.{Product}
use Rattle.py_repr.specs.py_kinds.Builtins.{pytest_call_name}
use Rattle.py_values.specs.declared.builtin.PytestCall.{PytestCall}
use Rattle.py_values.specs.declared.builtin.PytestCall.TheVariants as call
use Rattle.py_values.specs.declared.class.ExcClass.TheVariants.{Failed, Skipped}
use Rattle.py_values.specs.declared.object.Obj.{Obj}
use Rattle.py_values.specs.declared.value.Value.{Value}
use Rattle.pytest_calls.specs.Finalizers.{finalizer_by}
use Rattle.pytest_calls.specs.Fixtures.{fixture_called}
use Rattle.pytest_arguments.specs.Forms.{function_fits}
use Rattle.pytest_calls.specs.Hooks.{hookimpl_called}
use Rattle.pytest_calls.specs.Params.{param_called}
use Rattle.pytest_calls.specs.Raising.{raises_called, outcome_called}

-- a call whose form fits
abbrev pub pytest_fitting : PytestCall → List Obj → List Value → List (List ℕ × Value) → Product
pytest_fitting call.Fail heap args named = outcome_called Failed heap args
pytest_fitting call.Fixture heap args named = fixture_called heap named
pytest_fitting call.HookImpl heap args named = hookimpl_called named
pytest_fitting call.Param heap args named = param_called heap args named
pytest_fitting call.Raises heap args named = raises_called heap args named
pytest_fitting call.Skip heap args named = outcome_called Skipped heap args

-- WHAT A CALL OF A FUNCTION OF PYTEST MAKES, of arguments by position and by name
unfoldable pub pytest_called : PytestCall → List Obj → List Value → List (List ℕ × Value) → Product
pytest_called which heap args named =
    if function_fits which args named then pytest_fitting which heap args named else wrong (pytest_call_name which) 0

-- WHAT `addfinalizer` MAKES; the request is the first of its arguments
unfoldable pub addfinalizer_called : List Obj → List Value → List (List ℕ × Value) → Product
addfinalizer_called heap args named = finalizer_by heap (pair args named)
