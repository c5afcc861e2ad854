-- `int` (Python library reference, built-in functions): of a number, or of a text of optional blanks, a sign, and digits of ASCII.
use Rattle.std.specs.Prelude.{ℕ, ◌+◌, ◌*◌, ◌-◌, ◌^◌, Bool, false, ◌||◌, ℤ, pos, neg_ℤ, List, [], ◌∷◌, codes, eqb, nat_lt, if◌then◌else◌, Option, Some, None}
use Rattle.text_methods.specs.call_products.Products.{plain, failed, wrong}
use Rattle.text_methods.specs.call_products.declared.product.Product.{Product}
use Rattle.text_methods.specs.py_operands.Texts.{text_of}
use Rattle.text_methods.specs.py_operands.Numbers.{bounded_number}
use Rattle.py_values.specs.Numbers.{int_value}
use Rattle.py_values.specs.declared.class.ExcClass.TheVariants.{ValueError}
use Rattle.py_values.specs.declared.end.Effect.TheVariants.{Give}
use Rattle.py_values.specs.declared.object.Obj.{Obj}
use Rattle.py_values.specs.declared.value.Value.{Value}
use Rattle.py_values.specs.declared.value.Value.TheVariants.{Int}
use Rattle.text_methods.specs.Characters.{is_digits, stripped}

-- a text behind its sign, where it has one: + or -
abbrev pub behind_sign : List ℕ → List ℕ
behind_sign [] = []
behind_sign (c ∷ cs) = if eqb c 43 || eqb c 45 then cs else c ∷ cs

abbrev pub is_below_zero : List ℕ → Bool
is_below_zero [] = false
is_below_zero (c ∷ cs) = eqb c 45

-- a number with a digit more, and the number of digits behind one
abbrev pub with_digit : ℕ → ℕ → ℕ
with_digit n c = 10 * n + (c - 48)

abbrev pub decimal : ℕ → List ℕ → ℕ
decimal n [] = n
decimal n (c ∷ cs) = decimal (with_digit n c) cs

-- a number that may have 128 bits with a sign
abbrev pub bounded : ℕ → Option ℕ
bounded n = if nat_lt (2 ^ 127) n then None else Some n

abbrev pub signed : Bool → ℕ → ℤ
signed negative n = if negative then neg_ℤ (pos n) else pos n

abbrev pub spelled : List ℕ → Product
spelled t =
    if is_digits (behind_sign t) then plain (bounded_number (signed (is_below_zero t) (decimal 0 (behind_sign t))))
    else failed ValueError (codes "invalid number") 0

abbrev pub int_of_text : Option (List ℕ) → Product
int_of_text (Some t) = spelled (stripped t)
int_of_text None = wrong (codes "int") 0

abbrev pub int_or_text : Option (List ℕ) → Option ℤ → Product
int_or_text t (Some z) = plain (Give (Int z) 0)
int_or_text t None = int_of_text t

abbrev pub int_of_value : List Obj → Value → Product
int_of_value heap v = int_or_text (text_of heap v) (int_value v)
