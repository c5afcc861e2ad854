-- `min` and `max` (Python library reference, built-in functions). They cost one for each element that they visit and one for each
-- comparison, and what the order of the two costs.
use Rattle.std.specs.Prelude.{ℕ, ◌+◌, ◌*◌, Bool, List, [], ◌∷◌, length, codes, nat_lt, if◌then◌else◌, Option, Some, None}
use Rattle.text_methods.specs.call_products.Elements.{elements_of}
use Rattle.text_methods.specs.call_products.Products.{plain, failed, wrong}
use Rattle.text_methods.specs.call_products.declared.elements.ElementsResult.{ElementsResult}
use Rattle.text_methods.specs.call_products.declared.elements.ElementsResult.TheVariants as gathered
use Rattle.text_methods.specs.call_products.declared.product.Product.{Product}
use Rattle.number_calls.specs.declared.best.Pick.{Pick}
use Rattle.number_calls.specs.declared.best.Pick.TheVariants.{Best, Refuse}
use Rattle.py_compare.specs.Order.{OrderVerdict, order_of}
use Rattle.py_compare.specs.Order as place
use Rattle.py_compare.specs.declared.tested.Comparison.{Comparison}
use Rattle.py_compare.specs.declared.tested.Comparison.TheVariants as ordered
use Rattle.text_methods.specs.py_operands.Faults.{not_supported}
use Rattle.text_methods.specs.py_operands.Texts.{text_of}
use Rattle.text_methods.specs.py_operands.Faults.{too_deep}
use Rattle.text_methods.specs.py_kinds.Kinds.{kind_name}
use Rattle.py_values.specs.declared.class.ExcClass.TheVariants.{ValueError}
use Rattle.py_values.specs.declared.end.Effect.{Effect}
use Rattle.py_values.specs.declared.end.Effect.TheVariants.{Give, New, Fail}
use Rattle.py_values.specs.declared.end.Raise.{Raise}
use Rattle.py_values.specs.declared.object.Obj.{Obj}
use Rattle.py_values.specs.declared.object.Obj.TheVariants.{Text}
use Rattle.py_values.specs.declared.value.Value.{Value}

-- `min` looks for the least, `max` for the greatest
abbrev pub name : Bool → List ℕ
name least = if least then codes "min" else codes "max"

abbrev pub not_ordered : Bool → List Obj → Value → Value → Raise
not_ordered least heap a b = not_supported (if least then codes "<" else codes ">") (kind_name heap a) (kind_name heap b)

-- an element a beside the best so far, b, which stays where both are the same
abbrev pub pick_by : Bool → List Obj → Value → Value → OrderVerdict → ℕ → Pick
pick_by least heap a b place.Less n = Best (if least then a else b) n
pick_by least heap a b place.Same n = Best b n
pick_by least heap a b place.More n = Best (if least then b else a) n
pick_by least heap a b place.Deep n = Refuse too_deep n
pick_by least heap a b place.Unordered n = Refuse (not_ordered least heap a b) n

abbrev pub pick_of : Bool → List Obj → Value → Value → Pick
pick_of least heap a b = pick_by least heap a b (order_of heap a b).place (order_of heap a b).cost

-- the same of what is told of an order under a budget
abbrev pub pick_told : Bool → List Obj → Value → Value → Comparison → Option Pick
pick_told least heap a b (ordered.Less n) = Some (pick_by least heap a b place.Less n)
pick_told least heap a b (ordered.Same n) = Some (pick_by least heap a b place.Same n)
pick_told least heap a b (ordered.More n) = Some (pick_by least heap a b place.More n)
pick_told least heap a b (ordered.TooDeep n) = Some (pick_by least heap a b place.Deep n)
pick_told least heap a b (ordered.NotOrdered n) = Some (pick_by least heap a b place.Unordered n)
pick_told least heap a b ordered.Exhausted = None

abbrev pub pick_cost : Pick → ℕ
pick_cost (Best v n) = n
pick_cost (Refuse r n) = n

abbrev pub pick_within : ℕ → Pick → Option Pick
pick_within budget p = if nat_lt budget (pick_cost p) then None else Some p

-- the best of an element and others, behind so many steps
abbrev pub best_by : Pick → ℕ → (Value → ℕ → Effect) → Effect
best_by (Best v m) n f = f v (n + m)
best_by (Refuse r m) n f = Fail r (n + m)

abbrev pub best_from : Bool → List Obj → Value → ℕ → List Value → Effect
best_from least heap best n [] = Give best n
best_from least heap best n (v ∷ vs) = best_by (pick_of least heap v best) (n + 2) (λ b m. best_from least heap b m vs)

abbrev pub empty : Product
empty = failed ValueError (codes "empty sequence") 0

abbrev pub values_best : Bool → List Obj → List Value → Product
values_best least heap [] = empty
values_best least heap (v ∷ vs) = plain (best_from least heap v 1 vs)

-- of the characters of a text: each is a text, and two of them are one pair to compare
abbrev pub better_char : Bool → ℕ → ℕ → ℕ
better_char least best c = if (if least then nat_lt c best else nat_lt best c) then c else best

abbrev pub best_char : Bool → ℕ → List ℕ → ℕ
best_char least best [] = best
best_char least best (c ∷ cs) = best_char least (better_char least best c) cs

abbrev pub text_best : Bool → List ℕ → Product
text_best least [] = empty
text_best least (c ∷ cs) = plain (New (Text (best_char least c cs ∷ [])) (1 + 3 * length cs))

abbrev pub gathered_best : Bool → List Obj → ElementsResult → Product
gathered_best least heap (gathered.Elements e) = values_best least heap e.values
gathered_best least heap (gathered.Refused r) = plain (Fail r 0)

abbrev pub value_or_text : Bool → List Obj → Value → Option (List ℕ) → Product
value_or_text least heap v (Some t) = text_best least t
value_or_text least heap v None = gathered_best least heap (elements_of heap (length heap) v)

abbrev pub value_best : Bool → List Obj → Value → Product
value_best least heap v = value_or_text least heap v (text_of heap v)

-- `min(x)` and `max(x)` of elements, `min(a, b)` and `max(a, b)` of two values
abbrev pub best_called : Bool → List Obj → List Value → List (List ℕ × Value) → Product
best_called least heap (v ∷ []) [] = value_best least heap v
best_called least heap (v ∷ w ∷ []) [] = values_best least heap (v ∷ w ∷ [])
best_called least heap _ _ = wrong (name least) 0
