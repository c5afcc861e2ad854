-- What kind a value is of: `isinstance` and `callable` (Python library reference, built-in functions). They cost nothing.
use Rattle.std.specs.Prelude.{Bool, true, false, not, List, codes, if◌then◌else◌, Option, Some, None, slice_get}
use Rattle.std.specs.List.{list_all}
use Rattle.call_products.specs.Products.{plain, wrong}
use Rattle.call_products.specs.declared.product.Product.{Product}
use Rattle.call_products.specs.py_kinds.Classes.{is_a}
use Rattle.py_values.specs.declared.end.Effect.TheVariants.{Give}
use Rattle.py_values.specs.declared.object.Obj.{Obj}
use Rattle.py_values.specs.declared.object.Obj.TheVariants as obj
use Rattle.py_values.specs.declared.value.Value.{Value}
use Rattle.py_values.specs.declared.value.Value.TheVariants as val

-- what answers a question
abbrev pub answered : Bool → Product
answered b = plain (Give (val.Bool b) 0)

abbrev pub obj_is_class : Option Obj → Bool
obj_is_class (Some (obj.Class c)) = true
obj_is_class (Some (obj.Text x)) = false
obj_is_class (Some (obj.List x)) = false
obj_is_class (Some (obj.Tuple x)) = false
obj_is_class (Some (obj.Dict x)) = false
obj_is_class (Some (obj.Range x)) = false
obj_is_class (Some (obj.Function x)) = false
obj_is_class (Some (obj.Method x)) = false
obj_is_class (Some (obj.Builtin x)) = false
obj_is_class (Some (obj.Instance x)) = false
obj_is_class (Some (obj.Exception x)) = false
obj_is_class (Some (obj.Module x)) = false
obj_is_class (Some (obj.Fixture x)) = false
obj_is_class (Some obj.MarkMaker) = false
obj_is_class (Some (obj.Mark x)) = false
obj_is_class (Some (obj.Hook x)) = false
obj_is_class (Some (obj.Param x)) = false
obj_is_class (Some (obj.Request x)) = false
obj_is_class (Some (obj.Raises x)) = false
obj_is_class (Some (obj.Info x)) = false
obj_is_class (Some (obj.Item x)) = false
obj_is_class None = false

abbrev pub is_class : List Obj → Value → Bool
is_class heap (val.Ref id) = obj_is_class (slice_get heap id.at)
is_class heap val.None = false
is_class heap (val.Bool b) = false
is_class heap (val.Int z) = false

-- a class, or a tuple of classes
abbrev pub obj_names_classes : List Obj → Option Obj → Bool
obj_names_classes heap (Some (obj.Class c)) = true
obj_names_classes heap (Some (obj.Tuple vs)) = list_all (is_class heap) vs
obj_names_classes heap (Some (obj.Text x)) = false
obj_names_classes heap (Some (obj.List x)) = false
obj_names_classes heap (Some (obj.Dict x)) = false
obj_names_classes heap (Some (obj.Range x)) = false
obj_names_classes heap (Some (obj.Function x)) = false
obj_names_classes heap (Some (obj.Method x)) = false
obj_names_classes heap (Some (obj.Builtin x)) = false
obj_names_classes heap (Some (obj.Instance x)) = false
obj_names_classes heap (Some (obj.Exception x)) = false
obj_names_classes heap (Some (obj.Module x)) = false
obj_names_classes heap (Some (obj.Fixture x)) = false
obj_names_classes heap (Some obj.MarkMaker) = false
obj_names_classes heap (Some (obj.Mark x)) = false
obj_names_classes heap (Some (obj.Hook x)) = false
obj_names_classes heap (Some (obj.Param x)) = false
obj_names_classes heap (Some (obj.Request x)) = false
obj_names_classes heap (Some (obj.Raises x)) = false
obj_names_classes heap (Some (obj.Info x)) = false
obj_names_classes heap (Some (obj.Item x)) = false
obj_names_classes heap None = false

abbrev pub names_classes : List Obj → Value → Bool
names_classes heap (val.Ref id) = obj_names_classes heap (slice_get heap id.at)
names_classes heap val.None = false
names_classes heap (val.Bool b) = false
names_classes heap (val.Int z) = false

-- `isinstance` of a class or a tuple of classes
abbrev pub isinstance_by : List Obj → Option (Value × Value) → Product
isinstance_by heap (Some p) = if names_classes heap p.1 then answered (is_a heap p.0 p.1) else wrong (codes "isinstance") 0
isinstance_by heap None = wrong (codes "isinstance") 0

-- functions, methods, built-in functions and classes can be called, and a mark that wasn't yet
abbrev pub obj_is_callable : Option Obj → Bool
obj_is_callable (Some (obj.Text x)) = false
obj_is_callable (Some (obj.List x)) = false
obj_is_callable (Some (obj.Tuple x)) = false
obj_is_callable (Some (obj.Dict x)) = false
obj_is_callable (Some (obj.Range x)) = false
obj_is_callable (Some (obj.Function x)) = true
obj_is_callable (Some (obj.Method x)) = true
obj_is_callable (Some (obj.Builtin x)) = true
obj_is_callable (Some (obj.Class x)) = true
obj_is_callable (Some (obj.Instance x)) = false
obj_is_callable (Some (obj.Exception x)) = false
obj_is_callable (Some (obj.Module x)) = false
obj_is_callable (Some (obj.Fixture x)) = false
obj_is_callable (Some obj.MarkMaker) = false
obj_is_callable (Some (obj.Mark x)) = not x.called
obj_is_callable (Some (obj.Hook x)) = false
obj_is_callable (Some (obj.Param x)) = false
obj_is_callable (Some (obj.Request x)) = false
obj_is_callable (Some (obj.Raises x)) = false
obj_is_callable (Some (obj.Info x)) = false
obj_is_callable (Some (obj.Item x)) = false
obj_is_callable None = false

abbrev pub is_callable : List Obj → Value → Bool
is_callable heap (val.Ref id) = obj_is_callable (slice_get heap id.at)
is_callable heap val.None = false
is_callable heap (val.Bool b) = false
is_callable heap (val.Int z) = false
