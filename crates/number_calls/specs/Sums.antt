-- `sum` (Python library reference, built-in functions). It costs one for each element that it visits.
use Rattle.std.specs.Prelude.{ℕ, suc, ℤ, pos, ◌+ℤ◌, List, [], ◌∷◌, ◌++◌, codes, Option, Some, None}
use Rattle.text_methods.specs.call_products.Products.{plain, failed}
use Rattle.text_methods.specs.call_products.declared.elements.Elements.{Elements}
use Rattle.text_methods.specs.call_products.declared.elements.ElementsResult.{ElementsResult}
use Rattle.text_methods.specs.call_products.declared.elements.ElementsResult.TheVariants as gathered
use Rattle.text_methods.specs.call_products.declared.product.Product.{Product}
use Rattle.number_calls.specs.declared.sums.Plus.{Plus}
use Rattle.number_calls.specs.declared.sums.Plus.TheVariants as plus
use Rattle.text_methods.specs.py_operands.Numbers.{fitting}
use Rattle.text_methods.specs.py_kinds.Kinds.{kind_name}
use Rattle.py_values.specs.Numbers.{int_value}
use Rattle.py_values.specs.Raises.{text_raise}
use Rattle.py_values.specs.declared.class.ExcClass.TheVariants.{TypeError, OverflowError}
use Rattle.py_values.specs.declared.end.Effect.TheVariants.{Give, Fail}
use Rattle.py_values.specs.declared.end.Raise.{Raise}
use Rattle.py_values.specs.declared.object.Obj.{Obj}
use Rattle.py_values.specs.declared.value.Value.{Value}
use Rattle.py_values.specs.declared.value.Value.TheVariants as val

-- a kind is added to a number
abbrev pub no_sum : List ℕ → Raise
no_sum kind = text_raise TypeError (codes "unsupported operand type(s) for " ++ (codes "+" ++ (codes ": '" ++ (codes "int" ++ (codes "' and '" ++ (kind ++ codes "'"))))))

abbrev pub no_number : List Obj → Value → ℕ → Product
no_number heap v n = plain (Fail (no_sum (kind_name heap v)) n)

abbrev pub too_large : ℕ → Product
too_large n = failed OverflowError (codes "whole number out of range") n

-- a sum with an element more
abbrev pub sum_or_large : Option ℤ → Plus
sum_or_large (Some z) = plus.Sum (val.Int z)
sum_or_large None = plus.TooLarge

abbrev pub plus_of : Option ℤ → Option ℤ → Plus
plus_of (Some x) (Some y) = sum_or_large (fitting (x +ℤ y))
plus_of (Some x) None = plus.NoNumber
plus_of None y = plus.NoNumber

-- what comes of it, behind so many elements
abbrev pub sum_by : List Obj → Value → ℕ → Plus → (Value → Product) → Product
sum_by heap v n (plus.Sum t) f = f t
sum_by heap v n plus.NoNumber f = no_number heap v n
sum_by heap v n plus.TooLarge f = too_large n

-- the elements added one behind another to a sum, of which so many were visited
abbrev pub sum_from : List Obj → Value → ℕ → List Value → Product
sum_from heap total n [] = plain (Give total n)
sum_from heap total n (v ∷ vs) = sum_by heap v (suc n) (plus_of (int_value total) (int_value v)) (λ t. sum_from heap t (suc n) vs)

-- the characters of a text are texts, and no numbers
abbrev pub sum_or_texts : List Obj → List Obj → List Value → Product
sum_or_texts heap [] vs = sum_from heap (val.Int (pos 0)) 0 vs
sum_or_texts heap (o ∷ os) vs = plain (Fail (no_sum (codes "str")) 1)

abbrev pub sum_made : List Obj → Elements → Product
sum_made heap e = sum_or_texts heap e.objects e.values

abbrev pub sum_gathered : List Obj → ElementsResult → Product
sum_gathered heap (gathered.Elements e) = sum_made heap e
sum_gathered heap (gathered.Refused r) = plain (Fail r 0)
