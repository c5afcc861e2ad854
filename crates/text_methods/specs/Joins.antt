-- What `join` gives (Python library reference, string methods), as it is made: the texts of the elements are not made by themselves.
use Rattle.std.specs.Prelude.{ℕ, Bool, List, [], length, codes, is_some, Option, Some, None}
use Rattle.call_products.specs.Products.{plain, too_long, wrong}
use Rattle.call_products.specs.declared.product.Product.{Product}
use Rattle.call_products.specs.py_operands.Faults.{not_iterable}
use Rattle.call_products.specs.py_operands.Texts.{text_of}
use Rattle.py_values.specs.declared.end.Effect.TheVariants.{Fail}
use Rattle.py_values.specs.declared.object.Obj.{Obj}
use Rattle.py_values.specs.declared.value.Value.{Value}
use Rattle.text_methods.specs.Methods.{Parts, Texts, OtherElements, NoElements, new_text}
use Rattle.text_methods.specs.Pieces.{joined, short_text}
use Rattle.text_methods.specs.declared.joined.Joined.{Joined}
use Rattle.text_methods.specs.declared.joined.Joined.TheVariants as end

abbrev pub is_text : List Obj → Value → Bool
is_text heap v = is_some (text_of heap v)

-- the characters of a value; what is no text has none
abbrev pub text_chars : Option (List ℕ) → List ℕ
text_chars (Some t) = t
text_chars None = []

abbrev pub chars_of : List Obj → Value → List ℕ
chars_of heap v = text_chars (text_of heap v)

abbrev pub by_length : Option (List ℕ) → Joined
by_length (Some t) = end.Text t
by_length None = end.TooLong

-- parts with a separator between them
abbrev pub joined_by : List ℕ → Parts → Joined
joined_by sep (Texts ps) = by_length (short_text (joined sep ps))
joined_by sep OtherElements = end.OtherElements
joined_by sep NoElements = end.NoElements

-- what a call of `join` makes of them
abbrev pub join_made : List ℕ → List ℕ → Joined → Product
join_made kind t (end.Text s) = new_text (length t) s
join_made kind t end.TooLong = too_long (length t)
join_made kind t end.OtherElements = wrong (codes "join") (length t)
join_made kind t end.NoElements = plain (Fail (not_iterable kind) (length t))
