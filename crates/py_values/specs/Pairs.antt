-- A dict's pairs, in order of insertion (Language Reference, mapping types).
use Rattle.std.specs.Prelude.{List, Bool, Option, Some, None}
use Rattle.std.specs.Cmp.Lexicographic.{pointwise}
use Rattle.std.specs.Map.{lookup, remove_entry}
use Rattle.indexmap.specs.IndexMap.{insert_entry}
use Rattle.py_values.specs.declared.key.Atom.{Atom}
use Rattle.py_values.specs.declared.value.Value.{Value}
use Rattle.py_values.specs.declared.dict.Pair.{Pair}
use Rattle.py_values.specs.Atoms.{atom_eq}

-- a dict's pairs by their keys as plain data
abbrev pub DictPairs : Type 0
DictPairs = List (List Atom × Pair)

abbrev pub key_eq : List Atom → List Atom → Bool
key_eq = pointwise atom_eq

-- the pair under a key
abbrev pub find_pair : List Atom → List (List Atom × Pair) → Option Pair
find_pair k es = lookup (key_eq k) es

-- the key that stands in a dict: an equal one that is there stays
abbrev pub first_key : Value → Option Pair → Value
first_key key None = key
first_key key (Some p) = p.key

-- the pairs with a value stored under a key: an equal key that is there keeps its place, and another comes last
abbrev pub put_pair : List Atom → Value → Value → List (List Atom × Pair) → List (List Atom × Pair)
put_pair k key value es = insert_entry key_eq es k (record { key = first_key key (find_pair k es); value = value })

-- the pairs without the one under a key
abbrev pub without_pair : List Atom → List (List Atom × Pair) → List (List Atom × Pair)
without_pair k es = remove_entry (key_eq k) es
