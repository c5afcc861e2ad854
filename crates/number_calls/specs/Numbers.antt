-- Numbers (Python library reference, built-in functions). These calls have no cost.
use Rattle.std.specs.Prelude.{ℕ, Bool, ◌&&◌, ◌||◌, ℤ, pos, negsuc, neg_ℤ, int_lt, List, [], ◌∷◌, codes, nat_lt, if◌then◌else◌, Option, Some, None}
use Rattle.std.specs.Ordering.{int_eq}
use Rattle.text_methods.specs.call_products.Arguments.{sole, pair}
use Rattle.text_methods.specs.call_products.Products.{plain, failed}
use Rattle.text_methods.specs.call_products.declared.product.Product.{Product}
use Rattle.text_methods.specs.py_operands.Numbers.{fitting, floor_div, floor_mod}
use Rattle.py_values.specs.Numbers.{int_value}
use Rattle.py_values.specs.declared.class.ExcClass.TheVariants.{OverflowError, ZeroDivisionError}
use Rattle.py_values.specs.declared.end.Effect.TheVariants.{New}
use Rattle.py_values.specs.declared.object.Obj.TheVariants as obj
use Rattle.py_values.specs.declared.value.Value.{Value}
use Rattle.py_values.specs.declared.value.Value.TheVariants as val

abbrev pub given_number : Option Value → Option ℤ
given_number (Some v) = int_value v
given_number None = None

-- the number that is the one argument of a call
abbrev pub sole_number : List Value → List (List ℕ × Value) → Option ℤ
sole_number args named = given_number (sole args named)

abbrev pub both_numbers : Option ℤ → Option ℤ → Option (ℤ × ℤ)
both_numbers (Some x) (Some y) = Some (x, y)
both_numbers _ _ = None

abbrev pub numbers_in : Option (Value × Value) → Option (ℤ × ℤ)
numbers_in (Some p) = both_numbers (int_value p.0) (int_value p.1)
numbers_in None = None

-- the two numbers that are the arguments of a call
abbrev pub number_pair : List Value → List (List ℕ × Value) → Option (ℤ × ℤ)
number_pair args named = numbers_in (pair args named)

-- a number without its sign
abbrev pub size : ℤ → Option ℤ
size z = if int_lt z (pos 0) then fitting (neg_ℤ z) else fitting z

-- a quotient, rounded down, and the rest
abbrev pub tuple_or_raise : Option ℤ → Option ℤ → Product
tuple_or_raise (Some q) (Some r) = plain (New (obj.Tuple (val.Int q ∷ val.Int r ∷ [])) 0)
tuple_or_raise _ _ = failed OverflowError (codes "whole number out of range") 0

abbrev pub divided_pair : ℤ → ℤ → Product
divided_pair x y =
    if int_eq y (pos 0) then failed ZeroDivisionError (codes "division by zero") 0
    else tuple_or_raise (fitting (floor_div x y)) (fitting (floor_mod x y))

-- the one character of a text
abbrev pub sole_char : Option (List ℕ) → Option ℕ
sole_char (Some (c ∷ [])) = Some c
sole_char _ = None

-- a code of Unicode that is no surrogate
abbrev pub is_code : ℕ → Bool
is_code n = nat_lt n 55296 || (nat_lt 57343 n && nat_lt n 1114112)

abbrev pub char_of : Option ℤ → Option ℕ
char_of (Some (pos n)) = if is_code n then Some n else None
char_of (Some (negsuc n)) = None
char_of None = None
