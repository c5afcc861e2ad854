-- The methods of built-in kinds, called with the value through which they were read before the arguments (Python library reference,
-- string methods, lists, tuples, mapping types).
use Rattle.std.specs.Prelude.{ℕ, List, [], ◌∷◌}
use Rattle.sequence_calls.specs.call_products.Products.{wrong}
use Rattle.sequence_calls.specs.call_products.declared.product.Product.{Product}
use Rattle.dict_methods.specs.Dicts.{dict_method_of}
use Rattle.list_methods.specs.Lists.{list_method_of, tuple_method_of}
use Rattle.object_calls.specs.py_kinds.Builtins.{text_method_name, list_method_name, tuple_method_name, dict_method_name}
use Rattle.py_values.specs.declared.builtin.TextMethod.{TextMethod}
use Rattle.py_values.specs.declared.builtin.ListMethod.{ListMethod}
use Rattle.py_values.specs.declared.builtin.TupleMethod.{TupleMethod}
use Rattle.py_values.specs.declared.builtin.DictMethod.{DictMethod}
use Rattle.py_values.specs.declared.object.Obj.{Obj}
use Rattle.py_values.specs.declared.value.ObjId.{ObjId}
use Rattle.py_values.specs.declared.value.Value.{Value}
use Rattle.py_values.specs.declared.value.Value.TheVariants as val
use Rattle.number_calls.specs.text_methods.Methods.{text_method_of}

-- what is done with the object that is the first argument, and the arguments behind it
abbrev pub through_object : Product → (ObjId → List Value → Product) → List Value → Product
through_object none f [] = none
through_object none f (val.Ref id ∷ args) = f id args
through_object none f (val.None ∷ args) = none
through_object none f (val.Bool b ∷ args) = none
through_object none f (val.Int n ∷ args) = none

-- a method of a text
abbrev pub text_call_of : TextMethod → List Obj → List Value → List (List ℕ × Value) → Product
text_call_of m heap [] named = wrong (text_method_name m) 0
text_call_of m heap (v ∷ args) named = text_method_of heap m v args named

-- a method of a list
abbrev pub list_call_of : ListMethod → List Obj → List Value → List (List ℕ × Value) → Product
list_call_of m heap args named = through_object (wrong (list_method_name m) 0) (λ id rest. list_method_of heap m id rest named) args

-- a method of a tuple
abbrev pub tuple_call_of : TupleMethod → List Obj → List Value → List (List ℕ × Value) → Product
tuple_call_of m heap args named = through_object (wrong (tuple_method_name m) 0) (λ id rest. tuple_method_of heap m id rest named) args

-- a method of a dict
abbrev pub dict_call_of : DictMethod → List Obj → List Value → List (List ℕ × Value) → Product
dict_call_of m heap args named = through_object (wrong (dict_method_name m) 0) (λ id rest. dict_method_of heap m id rest named) args
