-- `hookimpl(wrapper=, tryfirst=, trylast=)` (pytest's reference, `pytest.hookimpl`). It costs nothing.
use Rattle.std.specs.Prelude.{ℕ, List, [], ◌∷◌, if◌then◌else◌, Option, Some, None}
use Rattle.pytest_arguments.specs.call_products.Products.{plain}
use Rattle.pytest_arguments.specs.call_products.declared.product.Product.{Product}
use Rattle.py_values.specs.declared.end.Effect.TheVariants.{New}
use Rattle.py_values.specs.declared.object.HookObj.{HookObj}
use Rattle.py_values.specs.declared.object.Obj.TheVariants as obj
use Rattle.py_values.specs.declared.value.Value.{Value}
use Rattle.pytest_arguments.specs.declared.form.Argument.TheVariants as arg
use Rattle.pytest_arguments.specs.Forms.{named_value, bad_named}
use Rattle.pytest_arguments.specs.Given.{is_boolean, boolean_given}

-- the name of the first argument, in the order of the call, that is no boolean
abbrev pub first_unflagged : List (List ℕ × Value) → Option (List ℕ)
first_unflagged [] = None
first_unflagged (e ∷ es) = if is_boolean e.1 then first_unflagged es else Some e.0

unfoldable pub hook_object : List (List ℕ × Value) → HookObj
hook_object named = record {
  wrapper = boolean_given (named_value arg.Wrapper named);
  first = boolean_given (named_value arg.TryFirst named);
  last = boolean_given (named_value arg.TryLast named);
}

abbrev pub hook_by : List (List ℕ × Value) → Option (List ℕ) → Product
hook_by named (Some name) = bad_named name
hook_by named None = plain (New (obj.Hook (hook_object named)) 0)

-- THE CALL
abbrev pub hookimpl_called : List (List ℕ × Value) → Product
hookimpl_called named = hook_by named (first_unflagged named)
