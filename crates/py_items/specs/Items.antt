-- Subscripts, slices, stores and deletions of items, and the turns of a `for` (Language Reference, subscriptions, slicings,
-- assignment statements, the `del` and the `for` statement).
use Rattle.std.specs.Prelude.{ℕ, zero, suc, ◌+◌, ◌-◌, ◌/◌, ℤ, pos, negsuc, ◌+ℤ◌, ◌*ℤ◌, Bool, true, false, List, [], ◌∷◌, length, nat_le, nat_lt, if◌then◌else◌, Option, Some, None, codes, slice_get, is_some, min, option_map, not, ◌&&◌, ◌++◌}
use Rattle.std.specs.Ordering.{int_eq}
use Rattle.py_operands.specs.py_kinds.Keys.{key_of}
use Rattle.py_operands.specs.py_kinds.Kinds.{kind_name}
use Rattle.py_values.specs.Limits.{most_elements}
use Rattle.py_values.specs.Numbers.{int_value}
use Rattle.py_values.specs.Pairs.{find_pair}
use Rattle.py_values.specs.Raises.{text_raise}
use Rattle.py_values.specs.declared.change.Change.TheVariants as change
use Rattle.py_values.specs.declared.class.ExcClass.TheVariants.{ValueError}
use Rattle.py_values.specs.declared.dict.Pair.{Pair}
use Rattle.py_values.specs.declared.end.Effect.{Effect}
use Rattle.py_values.specs.declared.end.Effect.TheVariants.{Give, New, Put, Fail}
use Rattle.py_values.specs.declared.end.Raise.{Raise}
use Rattle.py_values.specs.declared.index.Index.{Index}
use Rattle.py_values.specs.declared.index.Index.TheVariants.{At, Slice}
use Rattle.py_values.specs.declared.key.Atom.{Atom}
use Rattle.py_operands.specs.py_kinds.declared.keys.KeyResult.{KeyResult}
use Rattle.py_operands.specs.py_kinds.declared.keys.KeyResult.TheVariants as keyed
use Rattle.py_values.specs.declared.object.Obj.{Obj}
use Rattle.py_values.specs.declared.object.Obj.TheVariants as obj
use Rattle.py_values.specs.declared.range.RangeObj.{RangeObj}
use Rattle.py_values.specs.declared.value.ObjId.{ObjId}
use Rattle.py_values.specs.declared.value.Value.{Value}
use Rattle.py_values.specs.declared.value.Value.TheVariants as val
use Rattle.py_items.specs.declared.index.IndexPlace.{IndexPlace}
use Rattle.py_items.specs.declared.index.IndexPlace.TheVariants as found
use Rattle.py_items.specs.declared.slice.Bounds.{Bounds}
use Rattle.py_items.specs.declared.slice.Parts.{Parts}
use Rattle.py_items.specs.declared.slice.Parts.TheVariants as parts
use Rattle.py_operands.specs.Faults.{key_fault, no_key, out_of_range, no_index, not_subscriptable}
use Rattle.py_operands.specs.Ranges.{range_number}
use Rattle.py_operands.specs.Sequences.{too_long}

-- the place of an element, counted from the end where the number is negative
abbrev pub element_place : ℕ → ℤ → Option ℕ
element_place len (pos n) = if nat_lt n len then Some n else None
element_place len (negsuc n) = if nat_lt n len then Some (len - (n + 1)) else None

abbrev pub found_place : Option ℕ → IndexPlace
found_place (Some i) = found.Place i
found_place None = found.Outside

-- the place that an index names, which must be a number in range
abbrev pub find_place : ℕ → Option ℤ → IndexPlace
find_place len (Some z) = found_place (element_place len z)
find_place len None = found.NoNumber

-- what is done at a place
abbrev pub at_found : (ℕ → Effect) → IndexPlace → Effect
at_found f (found.Place i) = f i
at_found f found.Outside = Fail out_of_range 0
at_found f found.NoNumber = Fail no_index 0

-- what is done at the place of an index
abbrev pub at_index : (ℕ → Effect) → ℕ → Option ℤ → Effect
at_index f len i = at_found f (find_place len i)

-- an element that is there
abbrev pub given : Option Value → Effect
given (Some v) = Give v 0
given None = Fail out_of_range 0

abbrev pub char_given : Option ℕ → Effect
char_given (Some c) = New (obj.Text (c ∷ [])) 0
char_given None = Fail out_of_range 0

-- what stands under a key
abbrev pub pair_given : Value → ℕ → Option Pair → Effect
pair_given key n (Some p) = Give p.value n
pair_given key n None = Fail (no_key key) n

abbrev pub under_key : List Obj → List (List Atom × Pair) → Value → KeyResult → Effect
under_key heap es key (keyed.Key k) = pair_given key (length k - 1) (find_pair k es)
under_key heap es key (keyed.Fault x n) = Fail (key_fault heap x) n

-- an element by its index, a value by its key
abbrev pub item_of : List Obj → Raise → Option Obj → Value → Effect
item_of heap none (Some (obj.Text t)) i = at_index (λ n. char_given (slice_get t n)) (length t) (int_value i)
item_of heap none (Some (obj.List vs)) i = at_index (λ n. given (slice_get vs n)) (length vs) (int_value i)
item_of heap none (Some (obj.Tuple vs)) i = at_index (λ n. given (slice_get vs n)) (length vs) (int_value i)
item_of heap none (Some (obj.Range r)) i = at_index (λ n. range_number r n) r.length (int_value i)
item_of heap none (Some (obj.Dict es)) i = under_key heap es i (key_of heap i)
item_of heap none (Some (obj.Function x)) i = Fail none 0
item_of heap none (Some (obj.Method x)) i = Fail none 0
item_of heap none (Some (obj.Builtin x)) i = Fail none 0
item_of heap none (Some (obj.Class x)) i = Fail none 0
item_of heap none (Some (obj.Instance x)) i = Fail none 0
item_of heap none (Some (obj.Exception x)) i = Fail none 0
item_of heap none (Some (obj.Module x)) i = Fail none 0
item_of heap none (Some (obj.Fixture x)) i = Fail none 0
item_of heap none (Some obj.MarkMaker) i = Fail none 0
item_of heap none (Some (obj.Mark x)) i = Fail none 0
item_of heap none (Some (obj.Hook x)) i = Fail none 0
item_of heap none (Some (obj.Param x)) i = Fail none 0
item_of heap none (Some (obj.Request x)) i = Fail none 0
item_of heap none (Some (obj.Raises x)) i = Fail none 0
item_of heap none (Some (obj.Info x)) i = Fail none 0
item_of heap none (Some (obj.Item x)) i = Fail none 0
item_of heap none None i = Fail none 0

-- a bound of a slice, counted from the end where it is negative, and never outside: as a place, and as the place behind it, which
-- is how a slice with a negative step counts
abbrev pub edge : ℕ → ℤ → ℕ
edge len (pos n) = min n len
edge len (negsuc n) = len - (n + 1)

abbrev pub edge_behind : ℕ → ℤ → ℕ
edge_behind len (pos n) = min (n + 1) len
edge_behind len (negsuc n) = len - n

abbrev pub edge_or : ℕ → (ℤ → ℕ) → Option ℤ → ℕ
edge_or default f None = default
edge_or default f (Some z) = f z

-- how many places there are from one up to below another, by a step
abbrev pub count_up : ℕ → ℕ → ℕ → ℕ
count_up start stop step = if nat_lt start stop then suc ((stop - start - 1) / step) else 0

-- what stands at a place, where there is something
abbrev pub element_at : {A : Type 0} → Option A → List A
element_at (Some x) = x ∷ []
element_at None = []

-- so many elements from a place on, by a step up or down
abbrev pub picked_up : {A : Type 0} → List A → ℕ → ℕ → ℕ → List A
picked_up xs at step zero = []
picked_up xs at step (suc n) = element_at (slice_get xs at) ++ picked_up xs (at + step) step n

abbrev pub picked_down : {A : Type 0} → List A → ℕ → ℕ → ℕ → List A
picked_down xs behind step zero = []
picked_down xs behind step (suc n) = element_at (slice_get xs (behind - 1)) ++ picked_down xs (behind - step) step n

-- the elements of a slice with these bounds and this step, which isn't zero
abbrev pub sliced : {A : Type 0} → List A → Option ℤ → Option ℤ → ℤ → List A
sliced xs a b (pos step) =
    picked_up xs (edge_or 0 (edge (length xs)) a) step
    (count_up (edge_or 0 (edge (length xs)) a) (edge_or (length xs) (edge (length xs)) b) step)
sliced xs a b (negsuc n) =
    picked_down xs (edge_or (length xs) (edge_behind (length xs)) a) (suc n)
    (count_up (edge_or 0 (edge_behind (length xs)) b) (edge_or (length xs) (edge_behind (length xs)) a) (suc n))

abbrev pub new_slice : {A : Type 0} → (List A → Obj) → List A → Effect
new_slice f xs = New (f xs) (length xs)

-- the parts of a slice as numbers, where each that is given is one
abbrev pub part_of : Option Value → Option (Option ℤ)
part_of None = Some None
part_of (Some v) = option_map Some (int_value v)

abbrev pub step_of : Option ℤ → ℤ
step_of None = pos 1
step_of (Some z) = z

abbrev pub zero_step : Effect
zero_step = Fail (text_raise ValueError (codes "slice step is zero")) 0

-- the numbers of a slice: its kinds first, then its step
abbrev pub bounds_by : Option ℤ → Option ℤ → ℤ → Parts
bounds_by a b c = if int_eq c (pos 0) then parts.ZeroStep else parts.Numbers (record { start = a; stop = b; step = c })

abbrev pub parts_by : Option (Option ℤ) → Option (Option ℤ) → Option (Option ℤ) → Parts
parts_by (Some a) (Some b) (Some c) = bounds_by a b (step_of c)
parts_by (Some a) (Some b) None = parts.NoNumber
parts_by (Some a) None c = parts.NoNumber
parts_by None b c = parts.NoNumber

abbrev pub parts_of : Option Value → Option Value → Option Value → Parts
parts_of a b c = parts_by (part_of a) (part_of b) (part_of c)

abbrev pub slice_with : {A : Type 0} → (List A → Obj) → List A → Bounds → Effect
slice_with f xs b = if int_eq b.step (pos 0) then zero_step else new_slice f (sliced xs b.start b.stop b.step)

abbrev pub slice_by_parts : {A : Type 0} → (List A → Obj) → List A → Parts → Effect
slice_by_parts f xs (parts.Numbers b) = slice_with f xs b
slice_by_parts f xs parts.ZeroStep = zero_step
slice_by_parts f xs parts.NoNumber = Fail no_index 0

abbrev pub object_slice : Raise → Option Obj → Parts → Effect
object_slice none (Some (obj.Text t)) p = slice_by_parts obj.Text t p
object_slice none (Some (obj.List vs)) p = slice_by_parts obj.List vs p
object_slice none (Some (obj.Tuple vs)) p = slice_by_parts obj.Tuple vs p
object_slice none (Some (obj.Dict x)) p = Fail none 0
object_slice none (Some (obj.Range x)) p = Fail none 0
object_slice none (Some (obj.Function x)) p = Fail none 0
object_slice none (Some (obj.Method x)) p = Fail none 0
object_slice none (Some (obj.Builtin x)) p = Fail none 0
object_slice none (Some (obj.Class x)) p = Fail none 0
object_slice none (Some (obj.Instance x)) p = Fail none 0
object_slice none (Some (obj.Exception x)) p = Fail none 0
object_slice none (Some (obj.Module x)) p = Fail none 0
object_slice none (Some (obj.Fixture x)) p = Fail none 0
object_slice none (Some obj.MarkMaker) p = Fail none 0
object_slice none (Some (obj.Mark x)) p = Fail none 0
object_slice none (Some (obj.Hook x)) p = Fail none 0
object_slice none (Some (obj.Param x)) p = Fail none 0
object_slice none (Some (obj.Request x)) p = Fail none 0
object_slice none (Some (obj.Raises x)) p = Fail none 0
object_slice none (Some (obj.Info x)) p = Fail none 0
object_slice none (Some (obj.Item x)) p = Fail none 0
object_slice none None p = Fail none 0

abbrev pub index_of : List Obj → Raise → Option Obj → Index → Effect
index_of heap none o (At i) = item_of heap none o i
index_of heap none o (Slice a b c) = object_slice none o (parts_of a b c)

abbrev pub object_at : List Obj → Value → Option Obj
object_at heap (val.Ref id) = slice_get heap id.at
object_at heap val.None = None
object_at heap (val.Bool b) = None
object_at heap (val.Int z) = None

-- A SUBSCRIPT
unfoldable pub subscript_of : List Obj → Value → Index → Effect
subscript_of heap a i = index_of heap (not_subscriptable (kind_name heap a)) (object_at heap a) i

-- a pair stored in a dict, which has room for one more where the key is new
abbrev pub pair_put : ObjId → List (List Atom × Pair) → List Atom → Value → Value → Effect
pair_put id es k key v =
    if not (is_some (find_pair k es)) && nat_le most_elements (length es) then too_long (length k - 1)
    else Put id (change.Pair k key v) val.None (length k - 1)

abbrev pub store_key : List Obj → ObjId → List (List Atom × Pair) → Value → Value → KeyResult → Effect
store_key heap id es key v (keyed.Key k) = pair_put id es k key v
store_key heap id es key v (keyed.Fault x n) = Fail (key_fault heap x) n

abbrev pub store_at : ObjId → ℕ → Option ℤ → Value → Effect
store_at id len i v = at_found (λ n. Put id (change.Item n v) val.None 0) (find_place len i)

abbrev pub store_in : List Obj → Raise → ObjId → Option Obj → Value → Value → Effect
store_in heap none id (Some (obj.List vs)) i v = store_at id (length vs) (int_value i) v
store_in heap none id (Some (obj.Dict es)) i v = store_key heap id es i v (key_of heap i)
store_in heap none id (Some (obj.Text x)) i v = Fail none 0
store_in heap none id (Some (obj.Tuple x)) i v = Fail none 0
store_in heap none id (Some (obj.Range x)) i v = Fail none 0
store_in heap none id (Some (obj.Function x)) i v = Fail none 0
store_in heap none id (Some (obj.Method x)) i v = Fail none 0
store_in heap none id (Some (obj.Builtin x)) i v = Fail none 0
store_in heap none id (Some (obj.Class x)) i v = Fail none 0
store_in heap none id (Some (obj.Instance x)) i v = Fail none 0
store_in heap none id (Some (obj.Exception x)) i v = Fail none 0
store_in heap none id (Some (obj.Module x)) i v = Fail none 0
store_in heap none id (Some (obj.Fixture x)) i v = Fail none 0
store_in heap none id (Some obj.MarkMaker) i v = Fail none 0
store_in heap none id (Some (obj.Mark x)) i v = Fail none 0
store_in heap none id (Some (obj.Hook x)) i v = Fail none 0
store_in heap none id (Some (obj.Param x)) i v = Fail none 0
store_in heap none id (Some (obj.Request x)) i v = Fail none 0
store_in heap none id (Some (obj.Raises x)) i v = Fail none 0
store_in heap none id (Some (obj.Info x)) i v = Fail none 0
store_in heap none id (Some (obj.Item x)) i v = Fail none 0
store_in heap none id None i v = Fail none 0

-- THE STORE OF AN ITEM
unfoldable pub store_of : List Obj → Value → Value → Value → Effect
store_of heap (val.Ref id) i v = store_in heap (not_subscriptable (kind_name heap (val.Ref id))) id (slice_get heap id.at) i v
store_of heap val.None i v = Fail (not_subscriptable (kind_name heap val.None)) 0
store_of heap (val.Bool b) i v = Fail (not_subscriptable (kind_name heap (val.Bool b))) 0
store_of heap (val.Int n) i v = Fail (not_subscriptable (kind_name heap (val.Int n))) 0

abbrev pub pair_taken : ObjId → Value → List Atom → Option Pair → Effect
pair_taken id key k (Some p) = Put id (change.WithoutPair k) val.None (length k - 1)
pair_taken id key k None = Fail (no_key key) (length k - 1)

abbrev pub delete_key : List Obj → ObjId → List (List Atom × Pair) → Value → KeyResult → Effect
delete_key heap id es key (keyed.Key k) = pair_taken id key k (find_pair k es)
delete_key heap id es key (keyed.Fault x n) = Fail (key_fault heap x) n

abbrev pub delete_at : ObjId → ℕ → Option ℤ → Effect
delete_at id len i = at_found (λ n. Put id (change.WithoutItem n) val.None 0) (find_place len i)

abbrev pub delete_in : List Obj → Raise → ObjId → Option Obj → Value → Effect
delete_in heap none id (Some (obj.List vs)) i = delete_at id (length vs) (int_value i)
delete_in heap none id (Some (obj.Dict es)) i = delete_key heap id es i (key_of heap i)
delete_in heap none id (Some (obj.Text x)) i = Fail none 0
delete_in heap none id (Some (obj.Tuple x)) i = Fail none 0
delete_in heap none id (Some (obj.Range x)) i = Fail none 0
delete_in heap none id (Some (obj.Function x)) i = Fail none 0
delete_in heap none id (Some (obj.Method x)) i = Fail none 0
delete_in heap none id (Some (obj.Builtin x)) i = Fail none 0
delete_in heap none id (Some (obj.Class x)) i = Fail none 0
delete_in heap none id (Some (obj.Instance x)) i = Fail none 0
delete_in heap none id (Some (obj.Exception x)) i = Fail none 0
delete_in heap none id (Some (obj.Module x)) i = Fail none 0
delete_in heap none id (Some (obj.Fixture x)) i = Fail none 0
delete_in heap none id (Some obj.MarkMaker) i = Fail none 0
delete_in heap none id (Some (obj.Mark x)) i = Fail none 0
delete_in heap none id (Some (obj.Hook x)) i = Fail none 0
delete_in heap none id (Some (obj.Param x)) i = Fail none 0
delete_in heap none id (Some (obj.Request x)) i = Fail none 0
delete_in heap none id (Some (obj.Raises x)) i = Fail none 0
delete_in heap none id (Some (obj.Info x)) i = Fail none 0
delete_in heap none id (Some (obj.Item x)) i = Fail none 0
delete_in heap none id None i = Fail none 0

-- THE DELETION OF AN ITEM
unfoldable pub delete_of : List Obj → Value → Value → Effect
delete_of heap (val.Ref id) i = delete_in heap (not_subscriptable (kind_name heap (val.Ref id))) id (slice_get heap id.at) i
delete_of heap val.None i = Fail (not_subscriptable (kind_name heap val.None)) 0
delete_of heap (val.Bool b) i = Fail (not_subscriptable (kind_name heap (val.Bool b))) 0
delete_of heap (val.Int n) i = Fail (not_subscriptable (kind_name heap (val.Int n))) 0
