-- The key of a value as plain data (Language Reference, the standard type hierarchy: mappings), with its steps.
use Rattle.std.specs.Prelude.{ℕ, zero, suc, ◌+◌, ◌-◌, ◌<◌, ◌≡◌, pos, List, [], ◌∷◌, ◌++◌, Option, Some, None, length, nat_lt, slice_get, if◌then◌else◌}
use Rattle.py_values.specs.Limits.{most_value_levels}
use Rattle.py_values.specs.declared.object.Obj.{Obj}
use Rattle.py_values.specs.declared.object.Obj.TheVariants as obj
use Rattle.py_values.specs.declared.value.Value.{Value}
use Rattle.py_values.specs.declared.value.Value.TheVariants as val
use Rattle.py_values.specs.declared.value.ObjId.{ObjId}
use Rattle.py_values.specs.declared.key.Atom.{Atom}
use Rattle.py_values.specs.declared.key.Atom.TheVariants as atom
use Rattle.py_kinds.specs.declared.keys.KeyFault.{KeyFault}
use Rattle.py_kinds.specs.declared.keys.KeyFault.TheVariants.{Unhashable, TooDeep}
use Rattle.py_kinds.specs.declared.keys.KeyResult.{KeyResult}
use Rattle.py_kinds.specs.declared.keys.KeyResult.TheVariants as keyed
use Rattle.py_kinds.specs.declared.keys.Pushed.{Pushed}
use Rattle.py_kinds.specs.declared.keys.Pushed.TheVariants as pushed

-- the parts of keys one behind another, up to the first fault
pub data Parts : Type 0 where
  Atoms : List Atom → Parts
  Fault : KeyFault → ℕ → Parts

-- one key behind another; a fault has the elements that were looked at before it
abbrev pub joined_parts : Parts → Parts → Parts
joined_parts (Fault x n) l = Fault x n
joined_parts (Atoms a) (Fault x n) = Fault x (length a + n)
joined_parts (Atoms a) (Atoms b) = Atoms (a ++ b)

abbrev pub row_parts : (Value → Parts) → List Value → Parts
row_parts f [] = Atoms []
row_parts f (v ∷ vs) = joined_parts (f v) (row_parts f vs)

-- None, booleans, numbers, texts, tuples of keys, functions, classes and instances are keys
abbrev pub obj_parts : (Value → Parts) → ObjId → Option Obj → Parts
obj_parts f id (Some (obj.Text t)) = Atoms (atom.Text t ∷ [])
obj_parts f id (Some (obj.Tuple vs)) = joined_parts (Atoms (atom.Tuple (length vs) ∷ [])) (row_parts f vs)
obj_parts f id (Some (obj.Function x)) = Atoms (atom.Object id ∷ [])
obj_parts f id (Some (obj.Class x)) = Atoms (atom.Object id ∷ [])
obj_parts f id (Some (obj.Instance x)) = Atoms (atom.Object id ∷ [])
obj_parts f id (Some (obj.Exception x)) = Atoms (atom.Object id ∷ [])
obj_parts f id (Some (obj.List x)) = Fault (Unhashable (val.Ref id)) 0
obj_parts f id (Some (obj.Dict x)) = Fault (Unhashable (val.Ref id)) 0
obj_parts f id (Some (obj.Range x)) = Fault (Unhashable (val.Ref id)) 0
obj_parts f id (Some (obj.Method x)) = Fault (Unhashable (val.Ref id)) 0
obj_parts f id (Some (obj.Builtin x)) = Fault (Unhashable (val.Ref id)) 0
obj_parts f id (Some (obj.Module x)) = Fault (Unhashable (val.Ref id)) 0
obj_parts f id (Some (obj.Fixture x)) = Fault (Unhashable (val.Ref id)) 0
obj_parts f id (Some obj.MarkMaker) = Fault (Unhashable (val.Ref id)) 0
obj_parts f id (Some (obj.Mark x)) = Fault (Unhashable (val.Ref id)) 0
obj_parts f id (Some (obj.Hook x)) = Fault (Unhashable (val.Ref id)) 0
obj_parts f id (Some (obj.Param x)) = Fault (Unhashable (val.Ref id)) 0
obj_parts f id (Some (obj.Request x)) = Fault (Unhashable (val.Ref id)) 0
obj_parts f id (Some (obj.Raises x)) = Fault (Unhashable (val.Ref id)) 0
obj_parts f id (Some (obj.Info x)) = Fault (Unhashable (val.Ref id)) 0
obj_parts f id (Some (obj.Item x)) = Fault (Unhashable (val.Ref id)) 0
obj_parts f id None = Fault (Unhashable (val.Ref id)) 0

-- the parts of a value's key, to a depth
abbrev pub parts_to : ℕ → List Obj → Value → Parts
parts_to zero heap v = Fault TooDeep 0
parts_to (suc n) heap val.None = Atoms (atom.None ∷ [])
parts_to (suc n) heap (val.Bool b) = Atoms (atom.Number (if b then pos 1 else pos 0) ∷ [])
parts_to (suc n) heap (val.Int z) = Atoms (atom.Number z ∷ [])
parts_to (suc n) heap (val.Ref id) = obj_parts (parts_to n heap) id (slice_get heap id.at)

-- THE KEY OF A VALUE: its parts, or why it is none with the elements of tuples that were looked at, the faulty one too
abbrev pub keyed_by : Parts → KeyResult
keyed_by (Atoms a) = keyed.Key a
keyed_by (Fault x n) = keyed.Fault x n

unfoldable pub key_of : List Obj → Value → KeyResult
key_of heap v = keyed_by (parts_to most_value_levels heap v)

-- the steps of a key, or of the way to its fault
abbrev pub key_steps : KeyResult → ℕ
key_steps (keyed.Key a) = length a - 1
key_steps (keyed.Fault x n) = n

-- a key under a budget, if anything
abbrev pub key_payable : ℕ → KeyResult → Option KeyResult
key_payable budget k = if nat_lt budget (key_steps k) then None else Some k

-- what is told of parts that are being made under a budget: they are whole, or end with a fault, or their steps are more than the budget's
abbrev pub PartsTold : ℕ → Pushed → List Atom → Parts → Type 0
PartsTold budget pushed.Whole a p = p ≡ Atoms a
PartsTold budget (pushed.Fault x) a p = p ≡ Fault x (length a)
PartsTold budget pushed.Exhausted a p = budget < key_steps (keyed_by p)
