-- Names with values in order of first binding.
use Rattle.std.specs.Prelude.{ℕ, List, Option, Bool, nat_eq}
use Rattle.std.specs.Cmp.Lexicographic.{pointwise}
use Rattle.std.specs.Map.{lookup, remove_entry}
use Rattle.indexmap.specs.IndexMap.{insert_entry}
use Rattle.py_values.specs.declared.value.Value.{Value}

abbrev pub name_eq : List ℕ → List ℕ → Bool
name_eq = pointwise nat_eq

-- the value of a name
abbrev pub find_name : List ℕ → List (List ℕ × Value) → Option Value
find_name name names = lookup (name_eq name) names

-- the names with one bound: one that is there keeps its place, another comes last
abbrev pub bind_name : List ℕ → Value → List (List ℕ × Value) → List (List ℕ × Value)
bind_name name v names = insert_entry name_eq names name v

-- the names without one
abbrev pub unbind_name : List ℕ → List (List ℕ × Value) → List (List ℕ × Value)
unbind_name name names = remove_entry (name_eq name) names
