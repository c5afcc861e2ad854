-- How an operator or a built-in call ends.
use Rattle.std.specs.Prelude.{ℕ, List, [], ◌∷◌, ◌++◌, length, if◌then◌else◌, nat_lt, Option, Some, None}
use Rattle.py_values.specs.declared.object.Obj.{Obj}
use Rattle.py_values.specs.declared.value.Value.TheVariants.{Ref}
use Rattle.py_values.specs.declared.value.ObjId.{ObjId}
use Rattle.py_values.specs.declared.end.OpEnd.{OpEnd}
use Rattle.py_values.specs.declared.end.OpEnd.TheVariants as end
use Rattle.py_values.specs.declared.end.Effect.{Effect}
use Rattle.py_values.specs.declared.end.Effect.TheVariants.{Give, New, Put, Fail}
use Rattle.py_values.specs.Changes.{heap_after}

abbrev pub id_at : ℕ → ObjId
id_at n = record { at = n }

-- the end of what is made, and the heap behind it; nothing is made where the budget doesn't suffice
abbrev pub finished : List Obj → Option Effect → OpEnd × List Obj
finished heap (Some (Give v n)) = (end.Value v n, heap)
finished heap (Some (New o n)) = (end.Value (Ref (id_at (length heap))) n, heap ++ o ∷ [])
finished heap (Some (Put id c v n)) = (end.Value v n, heap_after id c heap)
finished heap (Some (Fail r n)) = (end.Raised r n, heap)
finished heap None = (end.Exhausted, heap)

-- the steps of an end
abbrev pub steps_of : OpEnd → ℕ
steps_of (end.Value v n) = n
steps_of (end.Raised r n) = n
steps_of end.Exhausted = 0

-- the steps of what is made
abbrev pub cost_of : Effect → ℕ
cost_of (Give v n) = n
cost_of (New o n) = n
cost_of (Put id c v n) = n
cost_of (Fail r n) = n

abbrev pub made_cost : Option Effect → ℕ
made_cost (Some m) = cost_of m
made_cost None = 0

-- what is made under a budget, if anything
abbrev pub payable : ℕ → Effect → Option Effect
payable budget m = if nat_lt budget (cost_of m) then None else Some m
