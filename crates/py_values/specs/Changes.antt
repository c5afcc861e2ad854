-- The change of an object in a heap.
use Rattle.std.specs.Prelude.{ℕ, List, [], ◌∷◌, ◌++◌, Option, Some, None, slice_get, slice_set, remove}
use Rattle.py_values.specs.declared.change.Change.{Change}
use Rattle.py_values.specs.declared.change.Change.TheVariants as change
use Rattle.py_values.specs.declared.dict.Pair.{Pair}
use Rattle.py_values.specs.declared.key.Atom.{Atom}
use Rattle.py_values.specs.declared.object.Obj.{Obj}
use Rattle.py_values.specs.declared.object.Obj.TheVariants as obj
use Rattle.py_values.specs.declared.value.ObjId.{ObjId}
use Rattle.py_values.specs.declared.value.Value.{Value}
use Rattle.py_values.specs.Pairs.{put_pair, without_pair}

-- a list with other values
abbrev pub with_items : (List Value → List Value) → Obj → Obj
with_items f (obj.List vs) = obj.List (f vs)
with_items f (obj.Text x) = obj.Text x
with_items f (obj.Tuple x) = obj.Tuple x
with_items f (obj.Dict x) = obj.Dict x
with_items f (obj.Range x) = obj.Range x
with_items f (obj.Function x) = obj.Function x
with_items f (obj.Method x) = obj.Method x
with_items f (obj.Builtin x) = obj.Builtin x
with_items f (obj.Class x) = obj.Class x
with_items f (obj.Instance x) = obj.Instance x
with_items f (obj.Exception x) = obj.Exception x
with_items f (obj.Module x) = obj.Module x
with_items f (obj.Fixture x) = obj.Fixture x
with_items f obj.MarkMaker = obj.MarkMaker
with_items f (obj.Mark x) = obj.Mark x
with_items f (obj.Hook x) = obj.Hook x
with_items f (obj.Param x) = obj.Param x
with_items f (obj.Request x) = obj.Request x
with_items f (obj.Raises x) = obj.Raises x
with_items f (obj.Info x) = obj.Info x
with_items f (obj.Item x) = obj.Item x

-- a dict with other pairs
abbrev pub with_pairs : (List (List Atom × Pair) → List (List Atom × Pair)) → Obj → Obj
with_pairs f (obj.Dict es) = obj.Dict (f es)
with_pairs f (obj.Text x) = obj.Text x
with_pairs f (obj.List x) = obj.List x
with_pairs f (obj.Tuple x) = obj.Tuple x
with_pairs f (obj.Range x) = obj.Range x
with_pairs f (obj.Function x) = obj.Function x
with_pairs f (obj.Method x) = obj.Method x
with_pairs f (obj.Builtin x) = obj.Builtin x
with_pairs f (obj.Class x) = obj.Class x
with_pairs f (obj.Instance x) = obj.Instance x
with_pairs f (obj.Exception x) = obj.Exception x
with_pairs f (obj.Module x) = obj.Module x
with_pairs f (obj.Fixture x) = obj.Fixture x
with_pairs f obj.MarkMaker = obj.MarkMaker
with_pairs f (obj.Mark x) = obj.Mark x
with_pairs f (obj.Hook x) = obj.Hook x
with_pairs f (obj.Param x) = obj.Param x
with_pairs f (obj.Request x) = obj.Request x
with_pairs f (obj.Raises x) = obj.Raises x
with_pairs f (obj.Info x) = obj.Info x
with_pairs f (obj.Item x) = obj.Item x

-- an object behind a change
abbrev pub object_after : Change → Obj → Obj
object_after (change.Whole n) o = n
object_after (change.Push v) o = with_items (λ vs. vs ++ v ∷ []) o
object_after (change.Item at v) o = with_items (λ vs. slice_set vs at v) o
object_after (change.WithoutItem at) o = with_items (λ vs. remove vs at) o
object_after (change.Pair k key v) o = with_pairs (put_pair k key v) o
object_after (change.WithoutPair k) o = with_pairs (without_pair k) o

-- the heap with one object changed by a function, where it is there
abbrev pub changed : (Obj → Obj) → ℕ → List Obj → Option Obj → List Obj
changed f at heap (Some o) = slice_set heap at (f o)
changed f at heap None = heap

-- THE HEAP BEHIND A CHANGE of the object at a place
abbrev pub heap_after : ObjId → Change → List Obj → List Obj
heap_after id c heap = changed (object_after c) id.at heap (slice_get heap id.at)
