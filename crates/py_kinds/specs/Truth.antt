-- Truth (Python Language Reference, truth value testing).
use Rattle.std.specs.Prelude.{pos, Bool, true, false, not, List, Option, Some, None, length, slice_get, eqb}
use Rattle.std.specs.Ordering.{int_eq}
use Rattle.py_values.specs.declared.object.Obj.{Obj}
use Rattle.py_values.specs.declared.object.Obj.TheVariants as obj
use Rattle.py_values.specs.declared.value.Value.{Value}
use Rattle.py_values.specs.declared.value.Value.TheVariants as val

-- empty texts, lists, tuples, dicts and ranges are false; all other objects are true
abbrev pub obj_truth : Option Obj → Bool
obj_truth (Some (obj.Text t)) = not (eqb (length t) 0)
obj_truth (Some (obj.List vs)) = not (eqb (length vs) 0)
obj_truth (Some (obj.Tuple vs)) = not (eqb (length vs) 0)
obj_truth (Some (obj.Dict es)) = not (eqb (length es) 0)
obj_truth (Some (obj.Range r)) = not (eqb r.length 0)
obj_truth (Some (obj.Function x)) = true
obj_truth (Some (obj.Method x)) = true
obj_truth (Some (obj.Builtin x)) = true
obj_truth (Some (obj.Class x)) = true
obj_truth (Some (obj.Instance x)) = true
obj_truth (Some (obj.Exception x)) = true
obj_truth (Some (obj.Module x)) = true
obj_truth (Some (obj.Fixture x)) = true
obj_truth (Some obj.MarkMaker) = true
obj_truth (Some (obj.Mark x)) = true
obj_truth (Some (obj.Hook x)) = true
obj_truth (Some (obj.Param x)) = true
obj_truth (Some (obj.Request x)) = true
obj_truth (Some (obj.Raises x)) = true
obj_truth (Some (obj.Info x)) = true
obj_truth (Some (obj.Item x)) = true
obj_truth None = true

unfoldable pub truth : List Obj → Value → Bool
truth heap val.None = false
truth heap (val.Bool b) = b
truth heap (val.Int z) = not (int_eq z (pos 0))
truth heap (val.Ref id) = obj_truth (slice_get heap id.at)
