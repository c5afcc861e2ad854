-- `param(v, .., id=, marks=)` (pytest's reference, `pytest.param`). It costs nothing.
use Rattle.std.specs.Prelude.{ℕ, Bool, true, false, List, [], ◌∷◌, Option, Some, None, slice_get}
use Rattle.std.specs.List.{list_all}
use Rattle.pytest_arguments.specs.call_products.Products.{plain}
use Rattle.pytest_arguments.specs.call_products.declared.product.Product.{Product}
use Rattle.py_values.specs.declared.end.Effect.TheVariants.{New}
use Rattle.py_values.specs.declared.object.Obj.{Obj}
use Rattle.py_values.specs.declared.object.Obj.TheVariants as obj
use Rattle.py_values.specs.declared.object.ParamObj.{ParamObj}
use Rattle.py_values.specs.declared.value.Value.{Value}
use Rattle.py_values.specs.declared.value.Value.TheVariants as val
use Rattle.pytest_arguments.specs.declared.form.Argument.{Argument}
use Rattle.pytest_arguments.specs.declared.form.Argument.TheVariants as arg
use Rattle.pytest_arguments.specs.Forms.{named_value, bad_unless, unless_bad}
use Rattle.pytest_arguments.specs.Given.{if_given, unless_none, is_text_value, text_given}

abbrev pub obj_is_mark : Option Obj → Bool
obj_is_mark (Some (obj.Mark m)) = true
obj_is_mark (Some (obj.Text x)) = false
obj_is_mark (Some (obj.List x)) = false
obj_is_mark (Some (obj.Tuple x)) = false
obj_is_mark (Some (obj.Dict x)) = false
obj_is_mark (Some (obj.Range x)) = false
obj_is_mark (Some (obj.Function x)) = false
obj_is_mark (Some (obj.Method x)) = false
obj_is_mark (Some (obj.Builtin x)) = false
obj_is_mark (Some (obj.Class x)) = false
obj_is_mark (Some (obj.Instance x)) = false
obj_is_mark (Some (obj.Exception x)) = false
obj_is_mark (Some (obj.Module x)) = false
obj_is_mark (Some (obj.Fixture x)) = false
obj_is_mark (Some obj.MarkMaker) = false
obj_is_mark (Some (obj.Hook x)) = false
obj_is_mark (Some (obj.Param x)) = false
obj_is_mark (Some (obj.Request x)) = false
obj_is_mark (Some (obj.Raises x)) = false
obj_is_mark (Some (obj.Info x)) = false
obj_is_mark (Some (obj.Item x)) = false
obj_is_mark None = false

abbrev pub is_mark : List Obj → Value → Bool
is_mark heap (val.Ref id) = obj_is_mark (slice_get heap id.at)
is_mark heap val.None = false
is_mark heap (val.Bool b) = false
is_mark heap (val.Int z) = false

-- a mark, or a list of marks
abbrev pub obj_are_marks : List Obj → Option Obj → Bool
obj_are_marks heap (Some (obj.Mark m)) = true
obj_are_marks heap (Some (obj.List vs)) = list_all (is_mark heap) vs
obj_are_marks heap (Some (obj.Text x)) = false
obj_are_marks heap (Some (obj.Tuple x)) = false
obj_are_marks heap (Some (obj.Dict x)) = false
obj_are_marks heap (Some (obj.Range x)) = false
obj_are_marks heap (Some (obj.Function x)) = false
obj_are_marks heap (Some (obj.Method x)) = false
obj_are_marks heap (Some (obj.Builtin x)) = false
obj_are_marks heap (Some (obj.Class x)) = false
obj_are_marks heap (Some (obj.Instance x)) = false
obj_are_marks heap (Some (obj.Exception x)) = false
obj_are_marks heap (Some (obj.Module x)) = false
obj_are_marks heap (Some (obj.Fixture x)) = false
obj_are_marks heap (Some obj.MarkMaker) = false
obj_are_marks heap (Some (obj.Hook x)) = false
obj_are_marks heap (Some (obj.Param x)) = false
obj_are_marks heap (Some (obj.Request x)) = false
obj_are_marks heap (Some (obj.Raises x)) = false
obj_are_marks heap (Some (obj.Info x)) = false
obj_are_marks heap (Some (obj.Item x)) = false
obj_are_marks heap None = false

abbrev pub are_marks : List Obj → Value → Bool
are_marks heap (val.Ref id) = obj_are_marks heap (slice_get heap id.at)
are_marks heap val.None = false
are_marks heap (val.Bool b) = false
are_marks heap (val.Int z) = false

abbrev pub obj_marks : Value → Option Obj → List Value
obj_marks v (Some (obj.Mark m)) = v ∷ []
obj_marks v (Some (obj.List vs)) = vs
obj_marks v (Some (obj.Text x)) = []
obj_marks v (Some (obj.Tuple x)) = []
obj_marks v (Some (obj.Dict x)) = []
obj_marks v (Some (obj.Range x)) = []
obj_marks v (Some (obj.Function x)) = []
obj_marks v (Some (obj.Method x)) = []
obj_marks v (Some (obj.Builtin x)) = []
obj_marks v (Some (obj.Class x)) = []
obj_marks v (Some (obj.Instance x)) = []
obj_marks v (Some (obj.Exception x)) = []
obj_marks v (Some (obj.Module x)) = []
obj_marks v (Some (obj.Fixture x)) = []
obj_marks v (Some obj.MarkMaker) = []
obj_marks v (Some (obj.Hook x)) = []
obj_marks v (Some (obj.Param x)) = []
obj_marks v (Some (obj.Request x)) = []
obj_marks v (Some (obj.Raises x)) = []
obj_marks v (Some (obj.Info x)) = []
obj_marks v (Some (obj.Item x)) = []
obj_marks v None = []

abbrev pub marks_at : List Obj → Value → List Value
marks_at heap (val.Ref id) = obj_marks (val.Ref id) (slice_get heap id.at)
marks_at heap val.None = []
marks_at heap (val.Bool b) = []
marks_at heap (val.Int z) = []

abbrev pub marks_given : List Obj → Option Value → List Value
marks_given heap (Some v) = marks_at heap v
marks_given heap None = []

-- the first argument that is bad
unfoldable pub param_bad : List Obj → List (List ℕ × Value) → Option Argument
param_bad heap named =
    bad_unless (if_given (unless_none (is_text_value heap)) (named_value arg.Id named)) arg.Id
    (bad_unless (if_given (unless_none (are_marks heap)) (named_value arg.Marks named)) arg.Marks None)

unfoldable pub param_object : List Obj → List Value → List (List ℕ × Value) → ParamObj
param_object heap args named = record {
  values = args;
  id = text_given heap (named_value arg.Id named);
  marks = marks_given heap (named_value arg.Marks named);
}

-- THE CALL
abbrev pub param_called : List Obj → List Value → List (List ℕ × Value) → Product
param_called heap args named = unless_bad (param_bad heap named) (plain (New (obj.Param (param_object heap args named)) 0))
