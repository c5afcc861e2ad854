-- The built-in functions and classes but `print` (Python library reference, built-in functions).
use Rattle.std.specs.Prelude.{ℕ, List, length, Option, Some, None, codes, pos}
use Rattle.sequence_calls.specs.call_products.Products.{plain, wrong}
use Rattle.sequence_calls.specs.call_products.declared.product.Product.{Product}
use Rattle.py_calls.specs.Texts.{text_of}
use Rattle.py_calls.specs.declared.made.TextResult.{TextResult}
use Rattle.py_calls.specs.declared.made.TextResult.TheVariants.{Text, Refused}
use Rattle.object_calls.specs.py_kinds.Kinds.{kind_name}
use Rattle.object_calls.specs.py_kinds.Lengths.{length_of}
use Rattle.object_calls.specs.py_operands.Faults.{not_iterable}
use Rattle.py_values.specs.declared.end.Effect.TheVariants.{Give, New, Fail}
use Rattle.py_values.specs.declared.object.Obj.{Obj}
use Rattle.py_values.specs.declared.object.Obj.TheVariants as obj
use Rattle.py_values.specs.declared.value.Value.{Value}
use Rattle.py_values.specs.declared.value.Value.TheVariants as val

-- `str(v)`: a new text, at the cost of its length
abbrev pub str_by : TextResult → Product
str_by (Text t) = plain (New (obj.Text t) (length t))
str_by (Refused r) = plain (Fail r 0)

abbrev pub str_made : List Obj → Option Value → Product
str_made heap (Some v) = str_by (text_of heap v)
str_made heap None = wrong (codes "str") 0

-- `len(v)`: the number of elements
abbrev pub len_by : List ℕ → Option ℕ → Product
len_by kind (Some n) = plain (Give (val.Int (pos n)) 0)
len_by kind None = plain (Fail (not_iterable kind) 0)

abbrev pub len_made : List Obj → Option Value → Product
len_made heap (Some v) = len_by (kind_name heap v) (length_of heap v)
len_made heap None = wrong (codes "len") 0
