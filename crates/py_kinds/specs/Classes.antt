-- Classes, and what is an instance of which (Python library reference, `isinstance`).
use Rattle.std.specs.Prelude.{ℕ, zero, suc, Bool, true, false, ◌||◌, List, Option, Some, None, length, slice_get, is_some, eqb, if◌then◌else◌}
use Rattle.std.specs.List.{list_any, list_all}
use Rattle.py_values.specs.declared.builtin.Builtin.{Builtin}
use Rattle.py_values.specs.declared.builtin.Builtin.TheVariants as builtin
use Rattle.py_values.specs.declared.builtin.NumberCall.TheVariants as number
use Rattle.py_values.specs.declared.builtin.SequenceCall.TheVariants as call
use Rattle.py_values.specs.declared.class.ClassForm.{ClassForm}
use Rattle.py_values.specs.declared.class.ClassForm.TheVariants as form
use Rattle.py_values.specs.declared.class.ClassRef.{ClassRef}
use Rattle.py_values.specs.declared.class.ClassRef.TheVariants as ref
use Rattle.py_values.specs.declared.class.ExcClass.{ExcClass}
use Rattle.py_values.specs.declared.class.ExcClass.TheVariants as class
use Rattle.py_values.specs.declared.object.Obj.{Obj}
use Rattle.py_values.specs.declared.object.Obj.TheVariants as obj
use Rattle.py_values.specs.declared.value.ObjId.{ObjId}
use Rattle.py_values.specs.declared.value.Value.{Value}
use Rattle.py_values.specs.declared.value.Value.TheVariants as val
use Rattle.py_values.specs.contracts.builtin.BuiltinPartialEq.TheImpl as builtins_equal
use Rattle.py_values.specs.contracts.class.ExcClassPartialEq.TheImpl as equal

-- the base of a built-in class of exceptions (Python library reference, exception hierarchy)
abbrev pub exc_base : ExcClass → Option ExcClass
exc_base class.BaseException = None
exc_base class.Exception = Some class.BaseException
exc_base class.Skipped = Some class.BaseException
exc_base class.Failed = Some class.BaseException
exc_base class.StepLimit = Some class.BaseException
exc_base class.ArithmeticError = Some class.Exception
exc_base class.OverflowError = Some class.ArithmeticError
exc_base class.ZeroDivisionError = Some class.ArithmeticError
exc_base class.AssertionError = Some class.Exception
exc_base class.AttributeError = Some class.Exception
exc_base class.ImportError = Some class.Exception
exc_base class.ModuleNotFoundError = Some class.ImportError
exc_base class.LookupError = Some class.Exception
exc_base class.IndexError = Some class.LookupError
exc_base class.KeyError = Some class.LookupError
exc_base class.MemoryError = Some class.Exception
exc_base class.NameError = Some class.Exception
exc_base class.UnboundLocalError = Some class.NameError
exc_base class.RuntimeError = Some class.Exception
exc_base class.NotImplementedError = Some class.RuntimeError
exc_base class.RecursionError = Some class.RuntimeError
exc_base class.SyntaxError = Some class.Exception
exc_base class.TypeError = Some class.Exception
exc_base class.ValueError = Some class.Exception

abbrev pub exc_eq : ExcClass → ExcClass → Bool
exc_eq = equal.ghosts.eq

abbrev pub if_exc : (ExcClass → Bool) → Option ExcClass → Bool
if_exc f None = false
if_exc f (Some c) = f c

-- whether a built-in class of exceptions is another or stands on it, in at most n steps down
abbrev pub exc_within : ℕ → ExcClass → ExcClass → Bool
exc_within zero c d = false
exc_within (suc n) c d = exc_eq c d || if_exc (λ b. exc_within n b d) (exc_base c)

-- four classes stand above one another at most
abbrev pub exc_below : ExcClass → ExcClass → Bool
exc_below c d = exc_within 4 c d

-- the base of a class of the heap
abbrev pub base_of : Option Obj → Option ObjId
base_of (Some (obj.Class c)) = c.base
base_of _ = None

abbrev pub form_of : Option Obj → Option ClassForm
form_of (Some (obj.Class c)) = Some c.form
form_of _ = None

abbrev pub if_base : (ObjId → Bool) → Option ObjId → Bool
if_base f None = false
if_base f (Some b) = f b

-- whether a class of the heap is another or stands on it, in at most n steps down
abbrev pub stands_on : ℕ → List Obj → ObjId → ObjId → Bool
stands_on zero heap c d = false
stands_on (suc n) heap c d = eqb c.at d.at || if_base (λ b. stands_on n heap b d) (base_of (slice_get heap c.at))

abbrev pub exc_form : Option ClassForm → Option ExcClass
exc_form (Some (form.Exception c)) = Some c
exc_form (Some form.Source) = None
exc_form (Some (form.Kind b)) = None
exc_form None = None

abbrev pub first_exc : Option ExcClass → (ObjId → Option ExcClass) → Option ObjId → Option ExcClass
first_exc (Some c) f b = Some c
first_exc None f None = None
first_exc None f (Some b) = f b

-- the built-in class of exceptions that a class of the heap is or stands on, in at most n steps down
abbrev pub root_within : ℕ → List Obj → ObjId → Option ExcClass
root_within zero heap c = None
root_within (suc n) heap c = first_exc (exc_form (form_of (slice_get heap c.at))) (λ b. root_within n heap b) (base_of (slice_get heap c.at))

-- THE BUILT-IN CLASS OF EXCEPTIONS that a class is or stands on; none for a class that is no class of exceptions
abbrev pub root_of : List Obj → ClassRef → Option ExcClass
root_of heap (ref.Builtin c) = Some c
root_of heap (ref.Defined id) = root_within (length heap) heap id

-- the class of a built-in kind of objects, where there is one
abbrev pub kind_class : Option Obj → Option Builtin
kind_class (Some (obj.Text x)) = Some builtin.Str
kind_class (Some (obj.List x)) = Some (builtin.Sequence call.List)
kind_class (Some (obj.Tuple x)) = Some (builtin.Sequence call.Tuple)
kind_class (Some (obj.Dict x)) = Some (builtin.Sequence call.Dict)
kind_class (Some (obj.Range x)) = None
kind_class (Some (obj.Function x)) = None
kind_class (Some (obj.Method x)) = None
kind_class (Some (obj.Builtin x)) = None
kind_class (Some (obj.Class x)) = None
kind_class (Some (obj.Instance x)) = None
kind_class (Some (obj.Exception x)) = None
kind_class (Some (obj.Module x)) = None
kind_class (Some (obj.Fixture x)) = None
kind_class (Some obj.MarkMaker) = None
kind_class (Some (obj.Mark x)) = None
kind_class (Some (obj.Hook x)) = None
kind_class (Some (obj.Param x)) = None
kind_class (Some (obj.Request x)) = None
kind_class (Some (obj.Raises x)) = None
kind_class (Some (obj.Info x)) = None
kind_class (Some (obj.Item x)) = None
kind_class None = None

abbrev pub builtin_eq : Builtin → Builtin → Bool
builtin_eq = builtins_equal.ghosts.eq

abbrev pub is_class_of : Builtin → Option Builtin → Bool
is_class_of b (Some c) = builtin_eq c b
is_class_of b None = false

abbrev pub is_int : Builtin → Bool
is_int b = builtin_eq (builtin.Number number.Int) b

-- whether a value's kind is a built-in one; True and False are numbers
abbrev pub is_kind : List Obj → Builtin → Value → Bool
is_kind heap b (val.Ref id) = is_class_of b (kind_class (slice_get heap id.at))
is_kind heap b val.None = false
is_kind heap b (val.Bool x) = builtin_eq (builtin.Number number.Bool) b || is_int b
is_kind heap b (val.Int x) = is_int b

abbrev pub below_form : Option ClassForm → ExcClass → Bool
below_form (Some (form.Exception d)) c = exc_below c d
below_form (Some form.Source) c = false
below_form (Some (form.Kind b)) c = false
below_form None c = false

-- whether an exception's class is a class of the heap, or stands on it
abbrev pub class_below : List Obj → ClassRef → ObjId → Bool
class_below heap (ref.Builtin c) id = below_form (form_of (slice_get heap id.at)) c
class_below heap (ref.Defined c) id = stands_on (length heap) heap c id

abbrev pub kind_form : List Obj → Option ClassForm → Value → Bool
kind_form heap (Some (form.Kind b)) v = is_kind heap b v
kind_form heap (Some form.Source) v = false
kind_form heap (Some (form.Exception c)) v = false
kind_form heap None v = false

-- whether an object is an instance of a class: an instance of its class and those on which that stands, all else of the class of
-- its kind
abbrev pub obj_is_of : List Obj → Option Obj → Value → ObjId → Bool
obj_is_of heap (Some (obj.Instance x)) v id = stands_on (length heap) heap x.class id
obj_is_of heap (Some (obj.Exception x)) v id = class_below heap x.class id
obj_is_of heap (Some (obj.Text x)) v id = kind_form heap (form_of (slice_get heap id.at)) v
obj_is_of heap (Some (obj.List x)) v id = kind_form heap (form_of (slice_get heap id.at)) v
obj_is_of heap (Some (obj.Tuple x)) v id = kind_form heap (form_of (slice_get heap id.at)) v
obj_is_of heap (Some (obj.Dict x)) v id = kind_form heap (form_of (slice_get heap id.at)) v
obj_is_of heap (Some (obj.Range x)) v id = kind_form heap (form_of (slice_get heap id.at)) v
obj_is_of heap (Some (obj.Function x)) v id = kind_form heap (form_of (slice_get heap id.at)) v
obj_is_of heap (Some (obj.Method x)) v id = kind_form heap (form_of (slice_get heap id.at)) v
obj_is_of heap (Some (obj.Builtin x)) v id = kind_form heap (form_of (slice_get heap id.at)) v
obj_is_of heap (Some (obj.Class x)) v id = kind_form heap (form_of (slice_get heap id.at)) v
obj_is_of heap (Some (obj.Module x)) v id = kind_form heap (form_of (slice_get heap id.at)) v
obj_is_of heap (Some (obj.Fixture x)) v id = kind_form heap (form_of (slice_get heap id.at)) v
obj_is_of heap (Some obj.MarkMaker) v id = kind_form heap (form_of (slice_get heap id.at)) v
obj_is_of heap (Some (obj.Mark x)) v id = kind_form heap (form_of (slice_get heap id.at)) v
obj_is_of heap (Some (obj.Hook x)) v id = kind_form heap (form_of (slice_get heap id.at)) v
obj_is_of heap (Some (obj.Param x)) v id = kind_form heap (form_of (slice_get heap id.at)) v
obj_is_of heap (Some (obj.Request x)) v id = kind_form heap (form_of (slice_get heap id.at)) v
obj_is_of heap (Some (obj.Raises x)) v id = kind_form heap (form_of (slice_get heap id.at)) v
obj_is_of heap (Some (obj.Info x)) v id = kind_form heap (form_of (slice_get heap id.at)) v
obj_is_of heap (Some (obj.Item x)) v id = kind_form heap (form_of (slice_get heap id.at)) v
obj_is_of heap None v id = kind_form heap (form_of (slice_get heap id.at)) v

abbrev pub is_of : List Obj → Value → ObjId → Bool
is_of heap (val.Ref i) id = obj_is_of heap (slice_get heap i.at) (val.Ref i) id
is_of heap val.None id = kind_form heap (form_of (slice_get heap id.at)) val.None
is_of heap (val.Bool b) id = kind_form heap (form_of (slice_get heap id.at)) (val.Bool b)
is_of heap (val.Int n) id = kind_form heap (form_of (slice_get heap id.at)) (val.Int n)

unfoldable pub is_of_value : List Obj → Value → Value → Bool
is_of_value heap v (val.Ref id) = is_of heap v id
is_of_value heap v val.None = false
is_of_value heap v (val.Bool b) = false
is_of_value heap v (val.Int z) = false

abbrev pub is_of_any : List Obj → Value → Value → Option Obj → Bool
is_of_any heap v class (Some (obj.Tuple cs)) = list_any (is_of_value heap v) cs
is_of_any heap v class (Some (obj.Text x)) = is_of_value heap v class
is_of_any heap v class (Some (obj.List x)) = is_of_value heap v class
is_of_any heap v class (Some (obj.Dict x)) = is_of_value heap v class
is_of_any heap v class (Some (obj.Range x)) = is_of_value heap v class
is_of_any heap v class (Some (obj.Function x)) = is_of_value heap v class
is_of_any heap v class (Some (obj.Method x)) = is_of_value heap v class
is_of_any heap v class (Some (obj.Builtin x)) = is_of_value heap v class
is_of_any heap v class (Some (obj.Class x)) = is_of_value heap v class
is_of_any heap v class (Some (obj.Instance x)) = is_of_value heap v class
is_of_any heap v class (Some (obj.Exception x)) = is_of_value heap v class
is_of_any heap v class (Some (obj.Module x)) = is_of_value heap v class
is_of_any heap v class (Some (obj.Fixture x)) = is_of_value heap v class
is_of_any heap v class (Some obj.MarkMaker) = is_of_value heap v class
is_of_any heap v class (Some (obj.Mark x)) = is_of_value heap v class
is_of_any heap v class (Some (obj.Hook x)) = is_of_value heap v class
is_of_any heap v class (Some (obj.Param x)) = is_of_value heap v class
is_of_any heap v class (Some (obj.Request x)) = is_of_value heap v class
is_of_any heap v class (Some (obj.Raises x)) = is_of_value heap v class
is_of_any heap v class (Some (obj.Info x)) = is_of_value heap v class
is_of_any heap v class (Some (obj.Item x)) = is_of_value heap v class
is_of_any heap v class None = is_of_value heap v class

-- WHETHER A VALUE IS AN INSTANCE of a class, or of one of the classes of a tuple
unfoldable pub is_a : List Obj → Value → Value → Bool
is_a heap v (val.Ref id) = is_of_any heap v (val.Ref id) (slice_get heap id.at)
is_a heap v val.None = is_of_value heap v val.None
is_a heap v (val.Bool b) = is_of_value heap v (val.Bool b)
is_a heap v (val.Int n) = is_of_value heap v (val.Int n)

-- WHETHER A VALUE IS A CLASS OF EXCEPTIONS
unfoldable pub is_exc_class : List Obj → Value → Bool
is_exc_class heap (val.Ref id) = is_some (root_of heap (ref.Defined id))
is_exc_class heap val.None = false
is_exc_class heap (val.Bool b) = false
is_exc_class heap (val.Int n) = false

-- a class of exceptions, or a tuple of them
abbrev pub tuple_or : List Obj → Value → Option Obj → Bool
tuple_or heap v (Some (obj.Text x)) = is_exc_class heap v
tuple_or heap v (Some (obj.List x)) = is_exc_class heap v
tuple_or heap v (Some (obj.Tuple x)) = list_all (is_exc_class heap) x
tuple_or heap v (Some (obj.Dict x)) = is_exc_class heap v
tuple_or heap v (Some (obj.Range x)) = is_exc_class heap v
tuple_or heap v (Some (obj.Function x)) = is_exc_class heap v
tuple_or heap v (Some (obj.Method x)) = is_exc_class heap v
tuple_or heap v (Some (obj.Builtin x)) = is_exc_class heap v
tuple_or heap v (Some (obj.Class x)) = is_exc_class heap v
tuple_or heap v (Some (obj.Instance x)) = is_exc_class heap v
tuple_or heap v (Some (obj.Exception x)) = is_exc_class heap v
tuple_or heap v (Some (obj.Module x)) = is_exc_class heap v
tuple_or heap v (Some (obj.Fixture x)) = is_exc_class heap v
tuple_or heap v (Some obj.MarkMaker) = is_exc_class heap v
tuple_or heap v (Some (obj.Mark x)) = is_exc_class heap v
tuple_or heap v (Some (obj.Hook x)) = is_exc_class heap v
tuple_or heap v (Some (obj.Param x)) = is_exc_class heap v
tuple_or heap v (Some (obj.Request x)) = is_exc_class heap v
tuple_or heap v (Some (obj.Raises x)) = is_exc_class heap v
tuple_or heap v (Some (obj.Info x)) = is_exc_class heap v
tuple_or heap v (Some (obj.Item x)) = is_exc_class heap v
tuple_or heap v None = is_exc_class heap v

-- what an `except` and `raises` may take: a class of exceptions, or a tuple of them
unfoldable pub are_exc_classes : List Obj → Value → Bool
are_exc_classes heap (val.Ref id) = tuple_or heap (val.Ref id) (slice_get heap id.at)
are_exc_classes heap val.None = false
are_exc_classes heap (val.Bool b) = false
are_exc_classes heap (val.Int n) = false
