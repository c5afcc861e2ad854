-- The names of classes and of kinds.
use Rattle.std.specs.Prelude.{ℕ, List, Option, Some, None, codes, slice_get}
use Rattle.py_values.specs.declared.class.ExcClass.{ExcClass}
use Rattle.py_values.specs.declared.class.ExcClass.TheVariants as class
use Rattle.py_values.specs.declared.class.ClassRef.{ClassRef}
use Rattle.py_values.specs.declared.class.ClassRef.TheVariants.{Builtin, Defined}
use Rattle.py_values.specs.declared.object.Obj.{Obj}
use Rattle.py_values.specs.declared.object.Obj.TheVariants as obj
use Rattle.py_values.specs.declared.value.Value.{Value}
use Rattle.py_values.specs.declared.value.Value.TheVariants as val

abbrev pub class_name : ExcClass → List ℕ
class_name class.BaseException = codes "BaseException"
class_name class.Exception = codes "Exception"
class_name class.Skipped = codes "Skipped"
class_name class.Failed = codes "Failed"
class_name class.StepLimit = codes "StepLimit"
class_name class.ArithmeticError = codes "ArithmeticError"
class_name class.OverflowError = codes "OverflowError"
class_name class.ZeroDivisionError = codes "ZeroDivisionError"
class_name class.AssertionError = codes "AssertionError"
class_name class.AttributeError = codes "AttributeError"
class_name class.ImportError = codes "ImportError"
class_name class.ModuleNotFoundError = codes "ModuleNotFoundError"
class_name class.LookupError = codes "LookupError"
class_name class.IndexError = codes "IndexError"
class_name class.KeyError = codes "KeyError"
class_name class.MemoryError = codes "MemoryError"
class_name class.NameError = codes "NameError"
class_name class.UnboundLocalError = codes "UnboundLocalError"
class_name class.RuntimeError = codes "RuntimeError"
class_name class.NotImplementedError = codes "NotImplementedError"
class_name class.RecursionError = codes "RecursionError"
class_name class.SyntaxError = codes "SyntaxError"
class_name class.TypeError = codes "TypeError"
class_name class.ValueError = codes "ValueError"

-- the name of a class object; there is no class at a place that has none
abbrev pub class_name_at : Option Obj → List ℕ
class_name_at (Some (obj.Class c)) = c.name
class_name_at (Some (obj.Text x)) = codes "object"
class_name_at (Some (obj.List x)) = codes "object"
class_name_at (Some (obj.Tuple x)) = codes "object"
class_name_at (Some (obj.Dict x)) = codes "object"
class_name_at (Some (obj.Range x)) = codes "object"
class_name_at (Some (obj.Function x)) = codes "object"
class_name_at (Some (obj.Method x)) = codes "object"
class_name_at (Some (obj.Builtin x)) = codes "object"
class_name_at (Some (obj.Instance x)) = codes "object"
class_name_at (Some (obj.Exception x)) = codes "object"
class_name_at (Some (obj.Module x)) = codes "object"
class_name_at (Some (obj.Fixture x)) = codes "object"
class_name_at (Some obj.MarkMaker) = codes "object"
class_name_at (Some (obj.Mark x)) = codes "object"
class_name_at (Some (obj.Hook x)) = codes "object"
class_name_at (Some (obj.Param x)) = codes "object"
class_name_at (Some (obj.Request x)) = codes "object"
class_name_at (Some (obj.Raises x)) = codes "object"
class_name_at (Some (obj.Info x)) = codes "object"
class_name_at (Some (obj.Item x)) = codes "object"
class_name_at None = codes "object"

-- the name of an exception's class
abbrev pub class_ref_name : List Obj → ClassRef → List ℕ
class_ref_name heap (Builtin c) = class_name c
class_ref_name heap (Defined id) = class_name_at (slice_get heap id.at)

-- THE NAME OF AN OBJECT'S KIND: that of its class for an instance and an exception; there is no object at a place that the heap
-- hasn't
abbrev pub obj_kind : List Obj → Option Obj → List ℕ
obj_kind heap (Some (obj.Text x)) = codes "str"
obj_kind heap (Some (obj.List x)) = codes "list"
obj_kind heap (Some (obj.Tuple x)) = codes "tuple"
obj_kind heap (Some (obj.Dict x)) = codes "dict"
obj_kind heap (Some (obj.Range x)) = codes "range"
obj_kind heap (Some (obj.Function x)) = codes "function"
obj_kind heap (Some (obj.Method x)) = codes "method"
obj_kind heap (Some (obj.Builtin x)) = codes "builtin"
obj_kind heap (Some (obj.Class x)) = codes "type"
obj_kind heap (Some (obj.Instance x)) = class_name_at (slice_get heap x.class.at)
obj_kind heap (Some (obj.Exception x)) = class_ref_name heap x.class
obj_kind heap (Some (obj.Module x)) = codes "module"
obj_kind heap (Some (obj.Fixture x)) = codes "fixture"
obj_kind heap (Some obj.MarkMaker) = codes "mark"
obj_kind heap (Some (obj.Mark x)) = codes "mark"
obj_kind heap (Some (obj.Hook x)) = codes "mark"
obj_kind heap (Some (obj.Param x)) = codes "param"
obj_kind heap (Some (obj.Request x)) = codes "request"
obj_kind heap (Some (obj.Raises x)) = codes "raises"
obj_kind heap (Some (obj.Info x)) = codes "info"
obj_kind heap (Some (obj.Item x)) = codes "item"
obj_kind heap None = codes "object"

unfoldable pub kind_name : List Obj → Value → List ℕ
kind_name heap val.None = codes "NoneType"
kind_name heap (val.Bool b) = codes "bool"
kind_name heap (val.Int z) = codes "int"
kind_name heap (val.Ref id) = obj_kind heap (slice_get heap id.at)
