-- `request.addfinalizer(f)` (pytest's reference, `FixtureRequest.addfinalizer`). It costs nothing.
use Rattle.std.specs.Prelude.{ℕ, List, [], ◌∷◌, ◌++◌, codes, if◌then◌else◌, Option, Some, None, slice_get}
use Rattle.pytest_arguments.specs.call_products.Products.{plain, failed, wrong}
use Rattle.pytest_arguments.specs.call_products.declared.product.Product.{Product}
use Rattle.py_values.specs.declared.change.Change.TheVariants.{Whole}
use Rattle.py_values.specs.declared.class.ExcClass.TheVariants.{RuntimeError}
use Rattle.py_values.specs.declared.end.Effect.TheVariants.{Put}
use Rattle.py_values.specs.declared.object.Obj.{Obj}
use Rattle.py_values.specs.declared.object.Obj.TheVariants as obj
use Rattle.py_values.specs.declared.object.RequestObj.{RequestObj}
use Rattle.py_values.specs.declared.value.ObjId.{ObjId}
use Rattle.py_values.specs.declared.value.Value.{Value}
use Rattle.py_values.specs.declared.value.Value.TheVariants as val

-- a request with a finalizer more
abbrev pub with_finalizer : RequestObj → Value → RequestObj
with_finalizer r v = record r { finalizers = r.finalizers ++ v ∷ [] }

abbrev pub finalizer_added : ObjId → RequestObj → Value → Product
finalizer_added id r v =
    if r.closed then failed RuntimeError (codes "fixture is torn down") 0
    else plain (Put id (Whole (obj.Request (with_finalizer r v))) val.None 0)

abbrev pub finalizer_of_object : ObjId → Value → Option Obj → Product
finalizer_of_object id v (Some (obj.Request r)) = finalizer_added id r v
finalizer_of_object id v (Some (obj.Text x)) = wrong (codes "addfinalizer") 0
finalizer_of_object id v (Some (obj.List x)) = wrong (codes "addfinalizer") 0
finalizer_of_object id v (Some (obj.Tuple x)) = wrong (codes "addfinalizer") 0
finalizer_of_object id v (Some (obj.Dict x)) = wrong (codes "addfinalizer") 0
finalizer_of_object id v (Some (obj.Range x)) = wrong (codes "addfinalizer") 0
finalizer_of_object id v (Some (obj.Function x)) = wrong (codes "addfinalizer") 0
finalizer_of_object id v (Some (obj.Method x)) = wrong (codes "addfinalizer") 0
finalizer_of_object id v (Some (obj.Builtin x)) = wrong (codes "addfinalizer") 0
finalizer_of_object id v (Some (obj.Class x)) = wrong (codes "addfinalizer") 0
finalizer_of_object id v (Some (obj.Instance x)) = wrong (codes "addfinalizer") 0
finalizer_of_object id v (Some (obj.Exception x)) = wrong (codes "addfinalizer") 0
finalizer_of_object id v (Some (obj.Module x)) = wrong (codes "addfinalizer") 0
finalizer_of_object id v (Some (obj.Fixture x)) = wrong (codes "addfinalizer") 0
finalizer_of_object id v (Some obj.MarkMaker) = wrong (codes "addfinalizer") 0
finalizer_of_object id v (Some (obj.Mark x)) = wrong (codes "addfinalizer") 0
finalizer_of_object id v (Some (obj.Hook x)) = wrong (codes "addfinalizer") 0
finalizer_of_object id v (Some (obj.Param x)) = wrong (codes "addfinalizer") 0
finalizer_of_object id v (Some (obj.Raises x)) = wrong (codes "addfinalizer") 0
finalizer_of_object id v (Some (obj.Info x)) = wrong (codes "addfinalizer") 0
finalizer_of_object id v (Some (obj.Item x)) = wrong (codes "addfinalizer") 0
finalizer_of_object id v None = wrong (codes "addfinalizer") 0

abbrev pub finalizer_of : List Obj → Value → Value → Product
finalizer_of heap (val.Ref id) v = finalizer_of_object id v (slice_get heap id.at)
finalizer_of heap val.None v = wrong (codes "addfinalizer") 0
finalizer_of heap (val.Bool b) v = wrong (codes "addfinalizer") 0
finalizer_of heap (val.Int z) v = wrong (codes "addfinalizer") 0

abbrev pub finalizer_by : List Obj → Option (Value × Value) → Product
finalizer_by heap (Some p) = finalizer_of heap p.0 p.1
finalizer_by heap None = wrong (codes "addfinalizer") 0
