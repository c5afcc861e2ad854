-- The turns of a `for` (Language Reference, the `for` statement).
use Rattle.std.specs.Prelude.{ℕ, ◌+◌, ◌^◌, ◌<◌, Bool, List, [], ◌∷◌, ◌++◌, length, nat_lt, eqb, if◌then◌else◌, Option, Some, None, codes, slice_get}
use Rattle.py_values.specs.Changes.{heap_after}
use Rattle.py_values.specs.Ends.{id_at}
use Rattle.py_operands.specs.py_kinds.Kinds.{kind_name}
use Rattle.py_operands.specs.py_kinds.Lengths.{length_of}
use Rattle.py_values.specs.Raises.{text_raise}
use Rattle.py_values.specs.declared.class.ExcClass.TheVariants.{RuntimeError}
use Rattle.py_values.specs.declared.dict.Pair.{Pair}
use Rattle.py_values.specs.declared.key.Atom.{Atom}
use Rattle.py_values.specs.declared.end.Effect.{Effect}
use Rattle.py_values.specs.declared.end.Effect.TheVariants.{Give, New, Put, Fail}
use Rattle.py_values.specs.declared.object.Obj.{Obj}
use Rattle.py_values.specs.declared.object.Obj.TheVariants as obj
use Rattle.py_values.specs.declared.value.Value.{Value}
use Rattle.py_values.specs.declared.value.Value.TheVariants as val
use Rattle.py_operands.specs.Faults.{not_iterable}
use Rattle.py_items.specs.Items.{given, char_given, object_at}
use Rattle.py_operands.specs.Ranges.{range_number}
use Rattle.py_items.specs.declared.iter.IterAt.{IterAt}
use Rattle.py_items.specs.declared.iter.Turn.{Turn}
use Rattle.py_items.specs.declared.iter.Turn.TheVariants as turn

abbrev pub key_given : Option (List Atom × Pair) → Effect
key_given (Some e) = Give e.1.key 0
key_given None = given None

-- the element at a place that is below a length
abbrev pub if_below : ℕ → ℕ → Effect → Option Effect
if_below n len m = if nat_lt n len then Some m else None

abbrev pub changed_size : Effect
changed_size = Fail (text_raise RuntimeError (codes "dictionary changed size during iteration")) 0

abbrev pub turn_keys : ℕ → ℕ → List (List Atom × Pair) → Option Effect
turn_keys next len es = if eqb (length es) len then if_below next (length es) (key_given (slice_get es next)) else Some changed_size

-- a list, text, tuple or range is read by index; a dict's keys by position, and its length must stay
abbrev pub turn_in : Effect → ℕ → ℕ → Option Obj → Option Effect
turn_in none next len (Some (obj.Text t)) = if_below next (length t) (char_given (slice_get t next))
turn_in none next len (Some (obj.List vs)) = if_below next (length vs) (given (slice_get vs next))
turn_in none next len (Some (obj.Tuple vs)) = if_below next (length vs) (given (slice_get vs next))
turn_in none next len (Some (obj.Range r)) = if_below next r.length (range_number r next)
turn_in none next len (Some (obj.Dict es)) = turn_keys next len es
turn_in none next len (Some (obj.Function x)) = Some none
turn_in none next len (Some (obj.Method x)) = Some none
turn_in none next len (Some (obj.Builtin x)) = Some none
turn_in none next len (Some (obj.Class x)) = Some none
turn_in none next len (Some (obj.Instance x)) = Some none
turn_in none next len (Some (obj.Exception x)) = Some none
turn_in none next len (Some (obj.Module x)) = Some none
turn_in none next len (Some (obj.Fixture x)) = Some none
turn_in none next len (Some obj.MarkMaker) = Some none
turn_in none next len (Some (obj.Mark x)) = Some none
turn_in none next len (Some (obj.Hook x)) = Some none
turn_in none next len (Some (obj.Param x)) = Some none
turn_in none next len (Some (obj.Request x)) = Some none
turn_in none next len (Some (obj.Raises x)) = Some none
turn_in none next len (Some (obj.Info x)) = Some none
turn_in none next len (Some (obj.Item x)) = Some none
turn_in none next len None = Some none

-- A TURN: the element at the next place, and nothing at the end
unfoldable pub turn_of : List Obj → IterAt → Option Effect
turn_of heap at = turn_in (Fail (not_iterable (kind_name heap at.of)) 0) at.next at.length (object_at heap at.of)

-- the turns behind one: the next place where this one gave an element
abbrev pub iterator_after : IterAt → Effect → IterAt
iterator_after at (Give v n) = record { of = at.of; next = at.next + 1; length = at.length }
iterator_after at (New o n) = record { of = at.of; next = at.next + 1; length = at.length }
iterator_after at (Put id c v n) = record { of = at.of; next = at.next + 1; length = at.length }
iterator_after at (Fail r n) = at

abbrev pub next_turn : IterAt → Option Effect → IterAt
next_turn at None = at
next_turn at (Some m) = iterator_after at m

abbrev pub turn_by : List Obj → Effect → Turn × List Obj
turn_by heap (Give v n) = (turn.Item v, heap)
turn_by heap (New o n) = (turn.Item (val.Ref (id_at (length heap))), heap ++ o ∷ [])
turn_by heap (Put id c v n) = (turn.Item v, heap_after id c heap)
turn_by heap (Fail r n) = (turn.Raised r, heap)

-- what a turn tells, and the heap behind it
abbrev pub turn_end : List Obj → Option Effect → Turn × List Obj
turn_end heap None = (turn.End, heap)
turn_end heap (Some m) = turn_by heap m

abbrev pub iterate_by : Value → Option ℕ → Option IterAt
iterate_by v (Some n) = Some (record { of = v; next = 0; length = n })
iterate_by v None = None

-- where a `for` over a value begins; none for what isn't iterable
abbrev pub iterate : List Obj → Value → Option IterAt
iterate heap v = iterate_by v (length_of heap v)

-- an element was given at a place that has another one behind it
abbrev pub HasRoom : ℕ → Option Effect → Type 0
HasRoom next None = Unit {0}
HasRoom next (Some (Fail r n)) = Unit {0}
HasRoom next (Some (Give v n)) = next + 1 < 2 ^ 64
HasRoom next (Some (New o n)) = next + 1 < 2 ^ 64
HasRoom next (Some (Put id c v n)) = next + 1 < 2 ^ 64
