-- The methods of dicts and the call of `dict` (Python library reference, mapping types).
use Rattle.std.specs.Prelude.{ℕ, Bool, true, false, List, [], ◌∷◌, length, codes, if◌then◌else◌, Option, Some, None, slice_get}
use Rattle.call_products.specs.Arguments.{has_none, sole, pair}
use Rattle.call_products.specs.Products.{plain, wrong}
use Rattle.call_products.specs.declared.product.Product.{Product}
use Rattle.dict_methods.specs.Copies.{copy_made, update_made}
use Rattle.dict_methods.specs.Keyed.{key_args, get_of, dict_pop, setdefault_of}
use Rattle.dict_methods.specs.Views.{keys_made, values_made, items_made}
use Rattle.call_products.specs.py_kinds.Builtins.{dict_method_name}
use Rattle.py_values.specs.declared.builtin.DictMethod.{DictMethod}
use Rattle.py_values.specs.declared.builtin.DictMethod.TheVariants as method
use Rattle.py_values.specs.declared.change.Change.TheVariants as change
use Rattle.py_values.specs.declared.dict.Pair.{Pair}
use Rattle.py_values.specs.declared.end.Effect.TheVariants.{Put}
use Rattle.py_values.specs.declared.key.Atom.{Atom}
use Rattle.py_values.specs.declared.object.Obj.{Obj}
use Rattle.py_values.specs.declared.object.Obj.TheVariants as obj
use Rattle.py_values.specs.declared.value.ObjId.{ObjId}
use Rattle.py_values.specs.declared.value.Value.{Value}
use Rattle.py_values.specs.declared.value.Value.TheVariants as val

-- `clear()`: costs nothing
abbrev pub dict_clear : ObjId → Bool → Product
dict_clear id alone = if alone then plain (Put id (change.Whole (obj.Dict [])) val.None 0) else wrong (codes "clear") 0

-- `copy()`, `items()`, `keys()`, `values()`: cost the dict's length also where they raise
abbrev pub copy_alone : List (List Atom × Pair) → Bool → Product
copy_alone es alone = if alone then copy_made es (length es) else wrong (codes "copy") (length es)

abbrev pub items_alone : ℕ → List (List Atom × Pair) → Bool → Product
items_alone from es alone = if alone then items_made from es else wrong (codes "items") (length es)

abbrev pub keys_alone : List (List Atom × Pair) → Bool → Product
keys_alone es alone = if alone then keys_made es else wrong (codes "keys") (length es)

abbrev pub values_alone : List (List Atom × Pair) → Bool → Product
values_alone es alone = if alone then values_made es else wrong (codes "values") (length es)

-- the pairs of a value, where it is a dict
abbrev pub obj_pairs : Option Obj → Option (List (List Atom × Pair))
obj_pairs (Some (obj.Dict es)) = Some es
obj_pairs _ = None

abbrev pub dict_in : List Obj → Option Value → Option (List (List Atom × Pair))
dict_in heap (Some (val.Ref id)) = obj_pairs (slice_get heap id.at)
dict_in heap _ = None

-- `update(d)`
abbrev pub update_with : ObjId → List (List Atom × Pair) → Option (List (List Atom × Pair)) → Product
update_with id es (Some ds) = update_made id es ds
update_with id es None = wrong (codes "update") (length es)

abbrev pub update_of : List Obj → ObjId → List (List Atom × Pair) → Option Value → Product
update_of heap id es v = update_with id es (dict_in heap v)

-- whether there are no arguments by name
abbrev pub no_names : List (List ℕ × Value) → Bool
no_names [] = true
no_names (n ∷ ns) = false

-- a method of a dict
abbrev pub dict_called : List Obj → DictMethod → ObjId → List (List Atom × Pair) → List Value → List (List ℕ × Value) → Product
dict_called heap method.Clear id es args named = dict_clear id (has_none args named)
dict_called heap method.Copy id es args named = copy_alone es (has_none args named)
dict_called heap method.Get id es args named = get_of heap es (key_args args (no_names named))
dict_called heap method.Items id es args named = items_alone (length heap) es (has_none args named)
dict_called heap method.Keys id es args named = keys_alone es (has_none args named)
dict_called heap method.Pop id es args named = dict_pop heap id es (key_args args (no_names named))
dict_called heap method.SetDefault id es args named = setdefault_of heap id es (pair args named)
dict_called heap method.Update id es args named = update_of heap id es (sole args named)
dict_called heap method.Values id es args named = values_alone es (has_none args named)

abbrev pub by_dict : List Obj → DictMethod → ObjId → Option Obj → List Value → List (List ℕ × Value) → Product
by_dict heap which id (Some (obj.Dict es)) args named = dict_called heap which id es args named
by_dict heap which id _ args named = wrong (dict_method_name which) 0

-- A METHOD OF A DICT, read through an object
unfoldable pub dict_method_of : List Obj → DictMethod → ObjId → List Value → List (List ℕ × Value) → Product
dict_method_of heap which id args named = by_dict heap which id (slice_get heap id.at) args named
