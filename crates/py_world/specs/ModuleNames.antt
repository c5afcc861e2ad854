-- The names of modules (Language Reference, import-related module attributes).
use Rattle.std.specs.Prelude.{ℕ, ◌-◌, List, [], ◌∷◌, length, drop, take, map, codes, if◌then◌else◌, nat_eq}
use Rattle.py_values.specs.declared.object.Obj.{Obj}
use Rattle.py_values.specs.declared.object.Obj.TheVariants as obj
use Rattle.py_values.specs.declared.value.Value.TheVariants as val
use Rattle.py_values.specs.Ends.{id_at}
use Rattle.py_values.specs.Names.{name_eq}

-- a text without these characters at its end, where it ends with them
abbrev pub without_tail : List ℕ → List ℕ → List ℕ
without_tail tail text = if name_eq (drop (length text - length tail) text) tail then take (length text - length tail) text else text

-- a path without a last part `__init__`
abbrev pub without_init : List ℕ → List ℕ
without_init path = if name_eq path (codes "__init__") then [] else without_tail (codes "/__init__") path

abbrev pub dot_for_slash : ℕ → ℕ
dot_for_slash c = if nat_eq c 47 then 46 else c

-- THE NAME OF A MODULE: its path without `.py` and without a last part `__init__`, with `.` for `/`
abbrev pub module_name : List ℕ → List ℕ
module_name path = map dot_for_slash (without_init (without_tail (codes ".py") path))

-- the object of a module that begins; the text of its name stands at a place of the heap
abbrev pub module_object : List ℕ → ℕ → Obj
module_object path at = obj.Module (record { path = path; names = (codes "__name__", val.Ref (id_at at)) ∷ [] })
