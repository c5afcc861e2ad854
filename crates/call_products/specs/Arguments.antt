-- The arguments of calls, by position and by name.
use Rattle.std.specs.Prelude.{ℕ, Bool, true, false, List, [], ◌∷◌, Option, Some, None}
use Rattle.py_operands.specs.Texts.{text_of}
use Rattle.py_values.specs.declared.object.Obj.{Obj}
use Rattle.py_values.specs.declared.value.Value.{Value}

-- no arguments
abbrev pub has_none : List Value → List (List ℕ × Value) → Bool
has_none [] [] = true
has_none _ _ = false

-- the one argument of a call that has no other
abbrev pub sole : List Value → List (List ℕ × Value) → Option Value
sole (v ∷ []) [] = Some v
sole _ _ = None

-- the two arguments of a call that has no others
abbrev pub pair : List Value → List (List ℕ × Value) → Option (Value × Value)
pair (v ∷ w ∷ []) [] = Some (v, w)
pair _ _ = None

abbrev pub given_text : List Obj → Option Value → Option (List ℕ)
given_text heap (Some v) = text_of heap v
given_text heap None = None

-- the text that is the one argument of a call
abbrev pub sole_text : List Obj → List Value → List (List ℕ × Value) → Option (List ℕ)
sole_text heap args named = given_text heap (sole args named)
