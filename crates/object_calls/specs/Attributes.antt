-- Attributes by their names: `getattr` and `hasattr` (Python library reference, built-in functions). They are told what was read: a
-- failure where there is no attribute of the name.
use Rattle.std.specs.Prelude.{ℕ, Bool, true, false, List, [], ◌∷◌, Option, Some, None}
use Rattle.call_products.specs.Arguments.{pair}
use Rattle.call_products.specs.Products.{plain}
use Rattle.call_products.specs.declared.product.Product.{Product}
use Rattle.object_calls.specs.Kinds.{answered}
use Rattle.object_calls.specs.declared.attributes.AttributeQuery.{AttributeQuery}
use Rattle.call_products.specs.py_operands.Texts.{text_of}
use Rattle.py_values.specs.declared.end.Effect.{Effect}
use Rattle.py_values.specs.declared.end.Effect.TheVariants.{Give, New, Put, Fail}
use Rattle.py_values.specs.declared.object.Obj.{Obj}
use Rattle.py_values.specs.declared.value.Value.{Value}

abbrev pub asked_by : Value → Option Value → Option (List ℕ) → Option AttributeQuery
asked_by v other (Some name) = Some (record { target = v; name = name; other = other })
asked_by v other None = None

-- what a call asks for: a value's attribute of a name, and what is given where there is none
abbrev pub getattr_asked : List Obj → List Value → List (List ℕ × Value) → Option AttributeQuery
getattr_asked heap (v ∷ n ∷ []) [] = asked_by v None (text_of heap n)
getattr_asked heap (v ∷ n ∷ d ∷ []) [] = asked_by v (Some d) (text_of heap n)
getattr_asked heap _ _ = None

abbrev pub hasattr_by : List Obj → Option (Value × Value) → Option AttributeQuery
hasattr_by heap (Some p) = asked_by p.0 None (text_of heap p.1)
hasattr_by heap None = None

abbrev pub hasattr_asked : List Obj → List Value → List (List ℕ × Value) → Option AttributeQuery
hasattr_asked heap args named = hasattr_by heap (pair args named)

-- what is told of an attribute that was read
abbrev pub getattr_told : Option Value → Effect → Product
getattr_told (Some d) (Fail r n) = plain (Give d n)
getattr_told (Some d) (Give v n) = plain (Give v n)
getattr_told (Some d) (New o n) = plain (New o n)
getattr_told (Some d) (Put id c v n) = plain (Put id c v n)
getattr_told None m = plain m

abbrev pub is_there : Effect → Bool
is_there (Give v n) = true
is_there (New o n) = true
is_there (Put id c v n) = true
is_there (Fail r n) = false

abbrev pub hasattr_told : Effect → Product
hasattr_told m = answered (is_there m)
