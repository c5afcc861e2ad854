-- Lists and tuples of elements (Python library reference, built-in functions). Each costs the length of what it gives. Where Python gives
-- an iterator, here it is a list.
use Rattle.std.specs.Prelude.{ℕ, suc, ◌+◌, ◌-◌, List, [], ◌∷◌, ◌++◌, length, reverse, pos, Option, Some, None, slice_get}
use Rattle.call_products.specs.Elements.{elements_of}
use Rattle.call_products.specs.Products.{plain, refs_from}
use Rattle.call_products.specs.declared.elements.Elements.{Elements}
use Rattle.call_products.specs.declared.elements.ElementsResult.{ElementsResult}
use Rattle.call_products.specs.declared.elements.ElementsResult.TheVariants as gathered
use Rattle.call_products.specs.declared.product.Product.{Product}
use Rattle.py_values.specs.declared.end.Effect.TheVariants.{Give, New, Fail}
use Rattle.py_values.specs.declared.end.Raise.{Raise}
use Rattle.py_values.specs.declared.object.Obj.{Obj}
use Rattle.py_values.specs.declared.object.Obj.TheVariants as obj
use Rattle.py_values.specs.declared.value.Value.{Value}
use Rattle.py_values.specs.declared.value.Value.TheVariants as val

abbrev pub refused : Raise → Product
refused r = plain (Fail r 0)

-- `list(x)`
abbrev pub list_made : ElementsResult → Product
list_made (gathered.Elements e) = record { objects = e.objects; made = New (obj.List e.values) (length e.values) }
list_made (gathered.Refused r) = refused r

-- `tuple(x)`: a tuple is given itself
abbrev pub obj_tuple_length : Option Obj → Option ℕ
obj_tuple_length (Some (obj.Tuple vs)) = Some (length vs)
obj_tuple_length _ = None

abbrev pub tuple_length : List Obj → Value → Option ℕ
tuple_length heap (val.Ref id) = obj_tuple_length (slice_get heap id.at)
tuple_length heap val.None = None
tuple_length heap (val.Bool b) = None
tuple_length heap (val.Int z) = None

abbrev pub tuple_made : ElementsResult → Product
tuple_made (gathered.Elements e) = record { objects = e.objects; made = New (obj.Tuple e.values) (length e.values) }
tuple_made (gathered.Refused r) = refused r

abbrev pub itself_or : Value → Product → Option ℕ → Product
itself_or v p (Some n) = plain (Give v n)
itself_or v p None = p

abbrev pub tuple_of_value : List Obj → Value → Product
tuple_of_value heap v = itself_or v (tuple_made (elements_of heap (length heap) v)) (tuple_length heap v)

-- `reversed(x)`
abbrev pub reversed_made : ElementsResult → Product
reversed_made (gathered.Elements e) = record { objects = e.objects; made = New (obj.List (reverse e.values)) (length e.values) }
reversed_made (gathered.Refused r) = refused r

abbrev pub tuple_pair : Value → Value → Obj
tuple_pair a b = obj.Tuple (a ∷ b ∷ [])

-- a place as a value
abbrev pub place_number : ℕ → Value
place_number i = val.Int (pos i)

-- a tuple for each element, its place before it
abbrev pub numbered : ℕ → List Value → List Obj
numbered i [] = []
numbered i (v ∷ vs) = tuple_pair (place_number i) v ∷ numbered (suc i) vs

-- a tuple for each pair of elements, as far as both go
abbrev pub paired : List Value → List Value → List Obj
paired [] ys = []
paired (x ∷ xs) [] = []
paired (x ∷ xs) (y ∷ ys) = tuple_pair x y ∷ paired xs ys

-- a list of the new objects from a place on, which stand behind so many others
abbrev pub list_from : ℕ → List Obj → ℕ → Product
list_from behind os from =
    record { objects = os; made = New (obj.List (refs_from (behind + from) (length os - from))) (length os - from) }

-- `enumerate(x)`
abbrev pub enumerate_made : ℕ → ElementsResult → Product
enumerate_made behind (gathered.Elements e) = list_from behind (e.objects ++ numbered 0 e.values) (length e.objects)
enumerate_made behind (gathered.Refused r) = refused r

-- `zip(x, y)`
abbrev pub zip_with : ℕ → Elements → ElementsResult → Product
zip_with behind xs (gathered.Elements ys) =
    list_from behind ((xs.objects ++ ys.objects) ++ paired xs.values ys.values) (length (xs.objects ++ ys.objects))
zip_with behind xs (gathered.Refused r) = refused r

abbrev pub zip_first : List Obj → Value → ElementsResult → Product
zip_first heap y (gathered.Elements xs) = zip_with (length heap) xs (elements_of heap (length heap + length xs.objects) y)
zip_first heap y (gathered.Refused r) = refused r

abbrev pub zip_values : List Obj → Value → Value → Product
zip_values heap x y = zip_first heap y (elements_of heap (length heap) x)
