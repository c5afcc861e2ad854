-- Operators before a value (Language Reference, unary arithmetic and bitwise operations).
use Rattle.std.specs.Prelude.{ℕ, ℤ, neg_ℤ, List, ◌++◌, Option, Some, None, codes}
use Rattle.py_tree.specs.declared.op.UnOp.{UnOp}
use Rattle.py_tree.specs.declared.op.UnOp.TheVariants as op
use Rattle.py_values.specs.Numbers.{int_value}
use Rattle.py_operands.specs.py_kinds.Kinds.{kind_name}
use Rattle.py_values.specs.Raises.{text_raise}
use Rattle.py_values.specs.declared.class.ExcClass.TheVariants.{TypeError}
use Rattle.py_values.specs.declared.end.Effect.{Effect}
use Rattle.py_values.specs.declared.end.Effect.TheVariants.{Fail}
use Rattle.py_values.specs.declared.object.Obj.{Obj}
use Rattle.py_values.specs.declared.value.Value.{Value}
use Rattle.py_operands.specs.Numbers.{bounded_number, inverted}

abbrev pub unary_text : UnOp → List ℕ
unary_text op.Minus = codes "-"
unary_text op.Plus = codes "+"
unary_text op.Invert = codes "~"

abbrev pub bad_operand : List ℕ → List ℕ → Effect
bad_operand o a = Fail (text_raise TypeError (codes "bad operand type for unary " ++ (o ++ (codes ": '" ++ (a ++ codes "'"))))) 0

abbrev pub number_unary : UnOp → ℤ → Effect
number_unary op.Minus x = bounded_number (neg_ℤ x)
number_unary op.Plus x = bounded_number x
number_unary op.Invert x = bounded_number (inverted x)

abbrev pub plain_unary : Effect → UnOp → Option ℤ → Effect
plain_unary none o (Some x) = number_unary o x
plain_unary none o None = none

abbrev pub unary_of : UnOp → List Obj → Value → Effect
unary_of o heap a = plain_unary (bad_operand (unary_text o) (kind_name heap a)) o (int_value a)
