-- Copies of dicts, and dicts with others' pairs (Python library reference, mapping types).
use Rattle.std.specs.Prelude.{ℕ, ◌+◌, ◌-◌, Bool, ◌||◌, List, [], ◌∷◌, length, codes, nat_lt, is_some, if◌then◌else◌}
use Rattle.call_products.specs.Products.{plain, failed}
use Rattle.call_products.specs.declared.product.Product.{Product}
use Rattle.dict_methods.specs.declared.copies.Fill.{Fill}
use Rattle.dict_methods.specs.declared.copies.Fill.TheVariants as fill
use Rattle.py_values.specs.Limits.{most_elements}
use Rattle.py_values.specs.Pairs.{find_pair, put_pair}
use Rattle.py_values.specs.declared.change.Change.TheVariants as change
use Rattle.py_values.specs.declared.class.ExcClass.TheVariants.{MemoryError}
use Rattle.py_values.specs.declared.dict.Pair.{Pair}
use Rattle.py_values.specs.declared.end.Effect.TheVariants.{New, Put}
use Rattle.py_values.specs.declared.key.Atom.{Atom}
use Rattle.py_values.specs.declared.object.Obj.TheVariants as obj
use Rattle.py_values.specs.declared.value.ObjId.{ObjId}
use Rattle.py_values.specs.declared.value.Value.TheVariants as val

-- the steps of the keys of a dict, each used once
abbrev pub keys_steps : List (List Atom × Pair) → ℕ
keys_steps [] = 0
keys_steps (e ∷ es) = (length e.0 - 1) + keys_steps es

-- a pair stored among others, and pairs stored one by one
abbrev pub stored : List (List Atom × Pair) → List Atom × Pair → List (List Atom × Pair)
stored es e = put_pair e.0 e.1.key e.1.value es

abbrev pub store_all : List (List Atom × Pair) → List (List Atom × Pair) → List (List Atom × Pair)
store_all es [] = es
store_all es (d ∷ ds) = store_all (stored es d) ds

abbrev pub copied : List (List Atom × Pair) → List (List Atom × Pair)
copied es = store_all [] es

-- a copy: it uses each key once, behind so many steps
abbrev pub copy_made : List (List Atom × Pair) → ℕ → Product
copy_made es n = plain (New (obj.Dict (copied es)) (n + keys_steps es + length es))

-- whether a dict has room for a value under a key
abbrev pub has_room : List (List Atom × Pair) → List Atom → Bool
has_room es k = is_some (find_pair k es) || nat_lt (length es) most_elements

-- pairs with others stored one by one, and the steps of their keys; or the steps up to the key for which there is no room
pub data FillResult : Type 0 where
  Whole : List (List Atom × Pair) → ℕ → FillResult
  Full : ℕ → FillResult

abbrev pub filled : List (List Atom × Pair) → ℕ → List (List Atom × Pair) → FillResult
filled es n [] = Whole es n
filled es n (d ∷ ds) = if has_room es d.0 then filled (stored es d) (n + (length d.0 - 1)) ds else Full (n + (length d.0 - 1))

abbrev pub filled_by : Fill → List (List Atom × Pair) → FillResult
filled_by (fill.Whole n) es = Whole es n
filled_by (fill.Full n) es = Full n

abbrev pub updated : ObjId → FillResult → Product
updated id (Whole es n) = plain (Put id (change.Whole (obj.Dict es)) val.None n)
updated id (Full n) = failed MemoryError (codes "sequence too long") n

-- `update(d)`
abbrev pub update_made : ObjId → List (List Atom × Pair) → List (List Atom × Pair) → Product
update_made id es ds = updated id (filled (copied es) (length es) ds)
