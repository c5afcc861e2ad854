-- Identity (Language Reference, identity comparisons).
use Rattle.std.specs.Prelude.{Bool, false, true, List, Option, Some, None, eqb, slice_get, nat_eq}
use Rattle.std.specs.Cmp.Lexicographic.{pointwise}
use Rattle.std.specs.Ordering.{int_eq}
use Rattle.py_values.specs.declared.object.Obj.{Obj}
use Rattle.py_values.specs.declared.object.Obj.TheVariants as obj
use Rattle.py_values.specs.declared.value.Value.{Value}
use Rattle.py_values.specs.declared.value.Value.TheVariants as val

-- texts are the same by their characters, all else is the same as itself alone
abbrev pub same_objs : Bool → Option Obj → Option Obj → Bool
same_objs same (Some (obj.Text a)) (Some (obj.Text b)) = pointwise nat_eq a b
same_objs same (Some (obj.Text a)) b = same
same_objs same (Some (obj.List a)) b = same
same_objs same (Some (obj.Tuple a)) b = same
same_objs same (Some (obj.Dict a)) b = same
same_objs same (Some (obj.Range a)) b = same
same_objs same (Some (obj.Function a)) b = same
same_objs same (Some (obj.Method a)) b = same
same_objs same (Some (obj.Builtin a)) b = same
same_objs same (Some (obj.Class a)) b = same
same_objs same (Some (obj.Instance a)) b = same
same_objs same (Some (obj.Exception a)) b = same
same_objs same (Some (obj.Module a)) b = same
same_objs same (Some (obj.Fixture a)) b = same
same_objs same (Some obj.MarkMaker) b = same
same_objs same (Some (obj.Mark a)) b = same
same_objs same (Some (obj.Hook a)) b = same
same_objs same (Some (obj.Param a)) b = same
same_objs same (Some (obj.Request a)) b = same
same_objs same (Some (obj.Raises a)) b = same
same_objs same (Some (obj.Info a)) b = same
same_objs same (Some (obj.Item a)) b = same
same_objs same None b = same

abbrev pub same_bools : Bool → Bool → Bool
same_bools true b = b
same_bools false true = false
same_bools false false = true

-- None, booleans, numbers and texts by kind and value, all else by object
abbrev pub is_same : List Obj → Value → Value → Bool
is_same heap val.None val.None = true
is_same heap (val.Bool a) (val.Bool b) = same_bools a b
is_same heap (val.Int a) (val.Int b) = int_eq a b
is_same heap (val.Ref i) (val.Ref j) = same_objs (eqb i.at j.at) (slice_get heap i.at) (slice_get heap j.at)
is_same heap val.None (val.Bool b) = false
is_same heap val.None (val.Int b) = false
is_same heap val.None (val.Ref b) = false
is_same heap (val.Bool a) val.None = false
is_same heap (val.Bool a) (val.Int b) = false
is_same heap (val.Bool a) (val.Ref b) = false
is_same heap (val.Int a) val.None = false
is_same heap (val.Int a) (val.Bool b) = false
is_same heap (val.Int a) (val.Ref b) = false
is_same heap (val.Ref a) val.None = false
is_same heap (val.Ref a) (val.Bool b) = false
is_same heap (val.Ref a) (val.Int b) = false
