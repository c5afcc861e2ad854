-- Methods of dicts that use a key (Python library reference, mapping types). They cost what the use of the key costs.
use Rattle.std.specs.Prelude.{ℕ, ◌-◌, Bool, true, List, [], ◌∷◌, length, codes, nat_lt, if◌then◌else◌, Option, Some, None}
use Rattle.call_products.specs.Products.{plain, failed, wrong}
use Rattle.call_products.specs.declared.product.Product.{Product}
use Rattle.dict_methods.specs.declared.keyed.KeyArgs.{KeyArgs}
use Rattle.call_products.specs.py_operands.Faults.{key_fault, no_key}
use Rattle.call_products.specs.py_kinds.Keys.{key_of}
use Rattle.py_values.specs.Limits.{most_elements}
use Rattle.py_values.specs.Pairs.{find_pair}
use Rattle.py_values.specs.declared.change.Change.TheVariants as change
use Rattle.py_values.specs.declared.class.ExcClass.TheVariants.{MemoryError}
use Rattle.py_values.specs.declared.dict.Pair.{Pair}
use Rattle.py_values.specs.declared.end.Effect.TheVariants.{Give, Put, Fail}
use Rattle.py_values.specs.declared.key.Atom.{Atom}
use Rattle.call_products.specs.py_kinds.declared.keys.KeyFault.{KeyFault}
use Rattle.call_products.specs.py_kinds.declared.keys.KeyResult.{KeyResult}
use Rattle.call_products.specs.py_kinds.declared.keys.KeyResult.TheVariants as keyed
use Rattle.py_values.specs.declared.object.Obj.{Obj}
use Rattle.py_values.specs.declared.value.ObjId.{ObjId}
use Rattle.py_values.specs.declared.value.Value.{Value}
use Rattle.py_values.specs.declared.value.Value.TheVariants as val

-- a key, and perhaps a value, where there are no arguments by name
abbrev pub key_args : List Value → Bool → Option KeyArgs
key_args (k ∷ []) true = Some (record { key = k; default = None })
key_args (k ∷ d ∷ []) true = Some (record { key = k; default = Some d })
key_args _ _ = None

abbrev pub no_key_made : List Obj → KeyFault → ℕ → Product
no_key_made heap x n = plain (Fail (key_fault heap x) n)

abbrev pub value_of_pair : Option Pair → Option Value
value_of_pair (Some p) = Some p.value
value_of_pair None = None

-- the value under a key
abbrev pub value_under : List (List Atom × Pair) → List Atom → Option Value
value_under es k = value_of_pair (find_pair k es)

abbrev pub default_or_none : Option Value → Value
default_or_none (Some v) = v
default_or_none None = val.None

-- `get(k)` and `get(k, d)`
abbrev pub got : Option Value → Option Value → ℕ → Product
got (Some v) d n = plain (Give v n)
got None d n = plain (Give (default_or_none d) n)

abbrev pub get_by : List Obj → List (List Atom × Pair) → Option Value → KeyResult → Product
get_by heap es d (keyed.Key k) = got (value_under es k) d (length k - 1)
get_by heap es d (keyed.Fault x n) = no_key_made heap x n

abbrev pub get_of : List Obj → List (List Atom × Pair) → Option KeyArgs → Product
get_of heap es (Some a) = get_by heap es a.default (key_of heap a.key)
get_of heap es None = wrong (codes "get") 0

-- `pop(k)` and `pop(k, d)`: a key that isn't there raises only where no value is given
abbrev pub missed : Value → Option Value → ℕ → Product
missed key (Some d) n = plain (Give d n)
missed key None n = plain (Fail (no_key key) n)

abbrev pub taken : ObjId → List Atom → Option Value → KeyArgs → Product
taken id k (Some v) a = plain (Put id (change.WithoutPair k) v (length k - 1))
taken id k None a = missed a.key a.default (length k - 1)

abbrev pub pop_by : List Obj → ObjId → List (List Atom × Pair) → KeyArgs → KeyResult → Product
pop_by heap id es a (keyed.Key k) = taken id k (value_under es k) a
pop_by heap id es a (keyed.Fault x n) = no_key_made heap x n

abbrev pub dict_pop : List Obj → ObjId → List (List Atom × Pair) → Option KeyArgs → Product
dict_pop heap id es (Some a) = pop_by heap id es a (key_of heap a.key)
dict_pop heap id es None = wrong (codes "pop") 0

-- `setdefault(k, d)`
abbrev pub settled : ObjId → ℕ → List Atom → Option Value → Value × Value → Product
settled id n k (Some v) a = plain (Give v (length k - 1))
settled id n k None a =
    if nat_lt n most_elements then plain (Put id (change.Pair k a.0 a.1) a.1 (length k - 1)) else failed MemoryError (codes "sequence too long") (length k - 1)

abbrev pub setdefault_by : List Obj → ObjId → List (List Atom × Pair) → Value × Value → KeyResult → Product
setdefault_by heap id es a (keyed.Key k) = settled id (length es) k (value_under es k) a
setdefault_by heap id es a (keyed.Fault x n) = no_key_made heap x n

abbrev pub setdefault_of : List Obj → ObjId → List (List Atom × Pair) → Option (Value × Value) → Product
setdefault_of heap id es (Some a) = setdefault_by heap id es a (key_of heap a.0)
setdefault_of heap id es None = wrong (codes "setdefault") 0
