-- Operators between two values (Language Reference, binary arithmetic operations).
use Rattle.std.specs.Prelude.{ℕ, ℤ, ◌+ℤ◌, ◌-ℤ◌, ◌*ℤ◌, Bool, true, false, ◌&&◌, ◌||◌, not, List, ◌++◌, Option, Some, None, codes, slice_get, if◌then◌else◌}
use Rattle.py_tree.specs.declared.op.BinOp.{BinOp}
use Rattle.py_tree.specs.declared.op.BinOp.TheVariants as op
use Rattle.py_values.specs.Numbers.{int_value}
use Rattle.py_operands.specs.py_kinds.Kinds.{kind_name}
use Rattle.py_values.specs.Raises.{text_raise}
use Rattle.py_values.specs.declared.change.Change.TheVariants.{Whole}
use Rattle.py_values.specs.declared.class.ExcClass.TheVariants.{TypeError}
use Rattle.py_values.specs.declared.end.Effect.{Effect}
use Rattle.py_values.specs.declared.end.Effect.TheVariants.{Give, New, Put, Fail}
use Rattle.py_values.specs.declared.object.Obj.{Obj}
use Rattle.py_values.specs.declared.object.Obj.TheVariants as obj
use Rattle.py_values.specs.declared.value.ObjId.{ObjId}
use Rattle.py_values.specs.declared.value.Value.{Value}
use Rattle.py_values.specs.declared.value.Value.TheVariants as val
use Rattle.py_operands.specs.Numbers.{bounded_number, floor_div, floor_mod, divided, power, shift_left, shift_right, int_and, int_or, int_xor}
use Rattle.py_operands.specs.Sequences.{objs_added, obj_times}

abbrev pub binary_text : BinOp → List ℕ
binary_text op.Add = codes "+"
binary_text op.Sub = codes "-"
binary_text op.Mul = codes "*"
binary_text op.FloorDiv = codes "//"
binary_text op.Mod = codes "%"
binary_text op.Pow = codes "**"
binary_text op.LShift = codes "<<"
binary_text op.RShift = codes ">>"
binary_text op.BitAnd = codes "&"
binary_text op.BitOr = codes "|"
binary_text op.BitXor = codes "^"

-- an operator that two kinds don't have
abbrev pub unsupported : List ℕ → List ℕ → List ℕ → Effect
unsupported o a b =
    Fail (text_raise TypeError (codes "unsupported operand type(s) for " ++ (o ++ (codes ": '" ++ (a ++ (codes "' and '" ++ (b ++ codes "'"))))))) 0

-- two numbers
abbrev pub numbers_by : BinOp → ℤ → ℤ → Effect
numbers_by op.Add x y = bounded_number (x +ℤ y)
numbers_by op.Sub x y = bounded_number (x -ℤ y)
numbers_by op.Mul x y = bounded_number (x *ℤ y)
numbers_by op.FloorDiv x y = divided y (floor_div x y)
numbers_by op.Mod x y = divided y (floor_mod x y)
numbers_by op.Pow x y = power x y
numbers_by op.LShift x y = shift_left x y
numbers_by op.RShift x y = shift_right x y
numbers_by op.BitAnd x y = bounded_number (int_and x y)
numbers_by op.BitOr x y = bounded_number (int_or x y)
numbers_by op.BitXor x y = bounded_number (int_xor x y)

abbrev pub plain_by : BinOp → Option ℤ → Option ℤ → Option Effect
plain_by o (Some x) (Some y) = Some (numbers_by o x y)
plain_by o _ _ = None

-- `&`, `|` and `^` of two booleans give a boolean (Python library reference, boolean type)
abbrev pub bools_by : BinOp → Bool → Bool → Option Bool
bools_by op.BitAnd a b = Some (a && b)
bools_by op.BitOr a b = Some (a || b)
bools_by op.BitXor a b = Some (if a then not b else b)
bools_by op.Add a b = None
bools_by op.Sub a b = None
bools_by op.Mul a b = None
bools_by op.FloorDiv a b = None
bools_by op.Mod a b = None
bools_by op.Pow a b = None
bools_by op.LShift a b = None
bools_by op.RShift a b = None

abbrev pub or_made : Option Bool → Option Effect → Option Effect
or_made (Some b) m = Some (Give (val.Bool b) 0)
or_made None m = m

abbrev pub bool_by : BinOp → Value → Value → Option Bool
bool_by o (val.Bool a) (val.Bool b) = bools_by o a b
bool_by o _ _ = None

abbrev pub values_by : BinOp → Value → Value → Option Effect
values_by o a b = or_made (bool_by o a b) (plain_by o (int_value a) (int_value b))

-- numbers are added, and texts, lists and tuples are joined
abbrev pub added : List Obj → Value → Value → Option Effect
added heap (val.Ref i) (val.Ref j) = objs_added (slice_get heap i.at) (slice_get heap j.at)
added heap a b = plain_by op.Add (int_value a) (int_value b)

-- numbers are multiplied, and texts, lists and tuples are repeated, either way round
abbrev pub multiplied : List Obj → Value → Value → Option Effect
multiplied heap (val.Ref i) b = obj_times (slice_get heap i.at) (int_value b)
multiplied heap a (val.Ref j) = obj_times (slice_get heap j.at) (int_value a)
multiplied heap a b = plain_by op.Mul (int_value a) (int_value b)

-- what an operator gives on kinds that have it
abbrev pub supported : BinOp → List Obj → Value → Value → Option Effect
supported op.Add heap a b = added heap a b
supported op.Mul heap a b = multiplied heap a b
supported op.Sub heap a b = values_by op.Sub a b
supported op.FloorDiv heap a b = values_by op.FloorDiv a b
supported op.Mod heap a b = values_by op.Mod a b
supported op.Pow heap a b = values_by op.Pow a b
supported op.LShift heap a b = values_by op.LShift a b
supported op.RShift heap a b = values_by op.RShift a b
supported op.BitAnd heap a b = values_by op.BitAnd a b
supported op.BitOr heap a b = values_by op.BitOr a b
supported op.BitXor heap a b = values_by op.BitXor a b

abbrev pub or_fail : Effect → Option Effect → Effect
or_fail none (Some m) = m
or_fail none None = none

-- AN OPERATOR BETWEEN TWO VALUES
unfoldable pub binary_of : BinOp → List Obj → Value → Value → Effect
binary_of o heap a b = or_fail (unsupported (binary_text o) (kind_name heap a) (kind_name heap b)) (supported o heap a b)

-- what `+=` and `*=` do to a list: the result becomes its content
abbrev pub put_whole : ObjId → Effect → Effect
put_whole id (New o n) = Put id (Whole o) (val.Ref id) n
put_whole id (Give v n) = Give v n
put_whole id (Put i c v n) = Put i c v n
put_whole id (Fail r n) = Fail r n

abbrev pub put_some : ObjId → Option Effect → Option Effect
put_some id (Some m) = Some (put_whole id m)
put_some id None = None

abbrev pub is_list : Option Obj → Bool
is_list (Some (obj.List vs)) = true
is_list (Some (obj.Text x)) = false
is_list (Some (obj.Tuple x)) = false
is_list (Some (obj.Dict x)) = false
is_list (Some (obj.Range x)) = false
is_list (Some (obj.Function x)) = false
is_list (Some (obj.Method x)) = false
is_list (Some (obj.Builtin x)) = false
is_list (Some (obj.Class x)) = false
is_list (Some (obj.Instance x)) = false
is_list (Some (obj.Exception x)) = false
is_list (Some (obj.Module x)) = false
is_list (Some (obj.Fixture x)) = false
is_list (Some obj.MarkMaker) = false
is_list (Some (obj.Mark x)) = false
is_list (Some (obj.Hook x)) = false
is_list (Some (obj.Param x)) = false
is_list (Some (obj.Request x)) = false
is_list (Some (obj.Raises x)) = false
is_list (Some (obj.Info x)) = false
is_list (Some (obj.Item x)) = false
is_list None = false

abbrev pub changes_list : BinOp → Option Obj → Bool
changes_list op.Add x = is_list x
changes_list op.Sub x = false
changes_list op.Mul x = is_list x
changes_list op.FloorDiv x = false
changes_list op.Mod x = false
changes_list op.Pow x = false
changes_list op.LShift x = false
changes_list op.RShift x = false
changes_list op.BitAnd x = false
changes_list op.BitOr x = false
changes_list op.BitXor x = false

abbrev pub in_place_by : Bool → ObjId → Effect → Effect
in_place_by true id m = put_whole id m
in_place_by false id m = m

-- AN OPERATOR OF AN AUGMENTED ASSIGNMENT (Language Reference, augmented assignment statements): a list is changed in place
abbrev pub augmented_of : BinOp → List Obj → Value → Value → Effect
augmented_of o heap (val.Ref id) b = in_place_by (changes_list o (slice_get heap id.at)) id (binary_of o heap (val.Ref id) b)
augmented_of o heap val.None b = binary_of o heap val.None b
augmented_of o heap (val.Bool x) b = binary_of o heap (val.Bool x) b
augmented_of o heap (val.Int x) b = binary_of o heap (val.Int x) b
