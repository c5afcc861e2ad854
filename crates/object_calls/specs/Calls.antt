-- The built-in functions that ask of any object (Python library reference, built-in functions). `getattr` and `hasattr` read as an attribute
-- reference does.
use Rattle.std.specs.Prelude.{ℕ, List, codes}
use Rattle.call_products.specs.Arguments.{sole, pair}
use Rattle.call_products.specs.Products.{made_or_wrong}
use Rattle.call_products.specs.declared.product.Product.{Product}
use Rattle.py_attributes.specs.Attributes.{attribute_of}
use Rattle.py_repr.specs.Repr.{repr_of}
use Rattle.py_repr.specs.Symbols.{shown}
use Rattle.object_calls.specs.Attributes.{getattr_asked, getattr_told, hasattr_asked, hasattr_told}
use Rattle.object_calls.specs.Kinds.{answered, is_callable, isinstance_by}
use Rattle.object_calls.specs.Reprs.{text_made}
use Rattle.py_values.specs.Limits.{most_elements}
use Rattle.py_values.specs.declared.builtin.ObjectCall.{ObjectCall}
use Rattle.py_values.specs.declared.builtin.ObjectCall.TheVariants as object
use Rattle.py_values.specs.declared.object.Obj.{Obj}
use Rattle.py_values.specs.declared.value.Value.{Value}

abbrev pub object_call_of : ObjectCall → List Obj → List Value → List (List ℕ × Value) → Product
object_call_of object.Callable heap args named = made_or_wrong (codes "callable") (λ v. answered (is_callable heap v)) (sole args named)
object_call_of object.GetAttr heap args named = made_or_wrong (codes "getattr") (λ a. getattr_told a.other (attribute_of heap a.target a.name)) (getattr_asked heap args named)
object_call_of object.HasAttr heap args named = made_or_wrong (codes "hasattr") (λ a. hasattr_told (attribute_of heap a.target a.name)) (hasattr_asked heap args named)
object_call_of object.IsInstance heap args named = isinstance_by heap (pair args named)
object_call_of object.Repr heap args named = made_or_wrong (codes "repr") (λ v. text_made (shown most_elements (repr_of heap v))) (sole args named)
