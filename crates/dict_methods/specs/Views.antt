-- Lists of a dict's keys, values and pairs (Python library reference, dictionary view objects). They cost the dict's length and the
-- list's.
use Rattle.std.specs.Prelude.{ℕ, ◌+◌, List, [], ◌∷◌, map, length, Option, Some, None}
use Rattle.call_products.specs.Elements.{keys_of}
use Rattle.call_products.specs.Products.{plain, refs_from}
use Rattle.call_products.specs.declared.product.Product.{Product}
use Rattle.py_values.specs.declared.dict.Pair.{Pair}
use Rattle.py_values.specs.declared.end.Effect.TheVariants.{New}
use Rattle.py_values.specs.declared.key.Atom.{Atom}
use Rattle.py_values.specs.declared.object.Obj.{Obj}
use Rattle.py_values.specs.declared.object.Obj.TheVariants as obj
use Rattle.py_values.specs.declared.value.Value.{Value}

abbrev pub list_made : List Value → ℕ → Product
list_made vs n = plain (New (obj.List vs) (n + length vs))

abbrev pub keys_made : List (List Atom × Pair) → Product
keys_made es = list_made (keys_of es) (length es)

abbrev pub value_in : Option Pair → List Value
value_in (Some p) = p.value ∷ []
value_in None = []

abbrev pub value_of_entry : List Atom × Pair → Value
value_of_entry e = e.1.value

abbrev pub values_of : List (List Atom × Pair) → List Value
values_of es = map value_of_entry es

abbrev pub values_made : List (List Atom × Pair) → Product
values_made es = list_made (values_of es) (length es)

-- a tuple of a pair
abbrev pub pair_object : Pair → Obj
pair_object p = obj.Tuple (p.key ∷ p.value ∷ [])

abbrev pub object_in : Option Pair → List Obj
object_in (Some p) = pair_object p ∷ []
object_in None = []

abbrev pub object_of_entry : List Atom × Pair → Obj
object_of_entry e = pair_object e.1

abbrev pub pair_objects : List (List Atom × Pair) → List Obj
pair_objects es = map object_of_entry es

abbrev pub items_made : ℕ → List (List Atom × Pair) → Product
items_made from es =
    record { objects = pair_objects es; made = New (obj.List (refs_from from (length es))) (length es + length es) }
