-- The built-in functions on numbers, and those that add or compare elements (Python library reference, built-in functions).
use Rattle.std.specs.Prelude.{ℕ, List, [], ◌∷◌, length, codes, pos, true, false}
use Rattle.text_methods.specs.call_products.Arguments.{sole, sole_text}
use Rattle.text_methods.specs.call_products.Elements.{elements_of}
use Rattle.text_methods.specs.call_products.Products.{plain, made_or_wrong}
use Rattle.text_methods.specs.call_products.declared.product.Product.{Product}
use Rattle.text_methods.specs.py_kinds.Truth.{truth}
use Rattle.text_methods.specs.py_operands.Numbers.{number_made}
use Rattle.number_calls.specs.Best.{best_called}
use Rattle.number_calls.specs.Numbers.{sole_number, number_pair, size, divided_pair, sole_char, char_of}
use Rattle.number_calls.specs.Sums.{sum_gathered}
use Rattle.number_calls.specs.Texts.{int_of_value}
use Rattle.py_values.specs.declared.builtin.NumberCall.{NumberCall}
use Rattle.py_values.specs.declared.builtin.NumberCall.TheVariants as number
use Rattle.py_values.specs.declared.end.Effect.TheVariants.{Give, New}
use Rattle.py_values.specs.declared.object.Obj.{Obj}
use Rattle.py_values.specs.declared.object.Obj.TheVariants as obj
use Rattle.py_values.specs.declared.value.Value.{Value}
use Rattle.py_values.specs.declared.value.Value.TheVariants as val

abbrev pub number_call_of : NumberCall → List Obj → List Value → List (List ℕ × Value) → Product
number_call_of number.Abs heap args named = made_or_wrong (codes "abs") (λ n. plain (number_made (size n))) (sole_number args named)
number_call_of number.Bool heap args named = made_or_wrong (codes "bool") (λ v. plain (Give (val.Bool (truth heap v)) 0)) (sole args named)
number_call_of number.Chr heap args named = made_or_wrong (codes "chr") (λ c. plain (New (obj.Text (c ∷ [])) 0)) (char_of (sole_number args named))
number_call_of number.DivMod heap args named = made_or_wrong (codes "divmod") (λ p. divided_pair p.0 p.1) (number_pair args named)
number_call_of number.Int heap args named = made_or_wrong (codes "int") (int_of_value heap) (sole args named)
number_call_of number.Max heap args named = best_called false heap args named
number_call_of number.Min heap args named = best_called true heap args named
number_call_of number.Ord heap args named = made_or_wrong (codes "ord") (λ c. plain (Give (val.Int (pos c)) 0)) (sole_char (sole_text heap args named))
number_call_of number.Sum heap args named = made_or_wrong (codes "sum") (λ v. sum_gathered heap (elements_of heap (length heap) v)) (sole args named)
