-- Sequences of limited length (Python library reference, common sequence operations).
use Rattle.std.specs.Prelude.{ℕ, zero, suc, ◌+◌, ◌*◌, ℤ, pos, negsuc, List, [], ◌++◌, length, nat_lt, if◌then◌else◌, Option, Some, None, codes}
use Rattle.py_values.specs.Limits.{most_elements}
use Rattle.py_values.specs.Raises.{text_raise}
use Rattle.py_values.specs.declared.class.ExcClass.TheVariants.{MemoryError}
use Rattle.py_values.specs.declared.end.Effect.{Effect}
use Rattle.py_values.specs.declared.end.Effect.TheVariants.{New, Fail}
use Rattle.py_values.specs.declared.object.Obj.{Obj}
use Rattle.py_values.specs.declared.object.Obj.TheVariants as obj
use Rattle.py_operands.specs.declared.sequences.Room.{Room}
use Rattle.py_operands.specs.declared.sequences.Room.TheVariants as room

abbrev pub too_long : ℕ → Effect
too_long cost = Fail (text_raise MemoryError (codes "sequence too long")) cost

-- a new object of a length, which is its cost, where the length is at most 65,536
abbrev pub sequence : ℕ → Obj → Effect
sequence n o = if nat_lt most_elements n then too_long 0 else New o n

-- whether a sequence of a length may be made under a budget
abbrev pub room_of : ℕ → ℕ → Room
room_of budget n = if nat_lt most_elements n then room.TooLong else if nat_lt budget n then room.Short else room.Fits n

-- how often a number repeats
abbrev pub times : ℤ → ℕ
times (pos n) = n
times (negsuc n) = 0

abbrev pub repeat : {A : Type 0} → ℕ → List A → List A
repeat zero xs = []
repeat (suc n) xs = xs ++ repeat n xs

abbrev pub concatenation : {A : Type 0} → (List A → Obj) → List A → List A → Effect
concatenation f a b = sequence (length a + length b) (f (a ++ b))

abbrev pub repeated : {A : Type 0} → (List A → Obj) → List A → ℤ → Effect
repeated f xs z = sequence (times z * length xs) (f (repeat (times z) xs))

-- two texts, lists or tuples
abbrev pub objs_added : Option Obj → Option Obj → Option Effect
objs_added (Some (obj.Text a)) (Some (obj.Text b)) = Some (concatenation obj.Text a b)
objs_added (Some (obj.List a)) (Some (obj.List b)) = Some (concatenation obj.List a b)
objs_added (Some (obj.Tuple a)) (Some (obj.Tuple b)) = Some (concatenation obj.Tuple a b)
objs_added _ _ = None

-- a text, list or tuple and a number
abbrev pub obj_times : Option Obj → Option ℤ → Option Effect
obj_times (Some (obj.Text t)) (Some z) = Some (repeated obj.Text t z)
obj_times (Some (obj.List vs)) (Some z) = Some (repeated obj.List vs z)
obj_times (Some (obj.Tuple vs)) (Some z) = Some (repeated obj.Tuple vs z)
obj_times _ _ = None
