-- The arguments of a call bound to parameters (Language Reference, calls).
use Rattle.std.specs.Prelude.{◌≡◌, ℕ, ◌<◌, ◌≤◌, Bool, not, ◌||◌, List, [], ◌∷◌, length, drop, slice_get, nat_lt, Option, Some, None, if◌then◌else◌}
use Rattle.std.specs.List.{list_any, list_all}
use Rattle.py_values.specs.declared.value.Value.{Value}
use Rattle.py_values.specs.Names.{name_eq}

-- a parameter: its name, and its default where it has one
abbrev pub Formal : Type 0
Formal = List ℕ × Option Value

-- an argument by name
abbrev pub Named : Type 0
Named = List ℕ × Value

-- the values of the arguments that have a name
abbrev pub values_named : List ℕ → List Named → List Value
values_named name [] = []
values_named name (argument ∷ named) = if name_eq name argument.0 then argument.1 ∷ values_named name named else values_named name named

-- WHAT A PARAMETER IS GIVEN: the argument at its place, and each argument that has its name
abbrev pub given_values : List ℕ → Option Value → List Named → List Value
given_values name (Some v) named = v ∷ values_named name named
given_values name None named = values_named name named

-- ITS VALUE: the one that it is given, or its default where it is given none; it has none where it is given two, or where it is given
-- none and has no default
abbrev pub value_of : Option Value → List Value → Option Value
value_of default [] = default
value_of default (v ∷ []) = Some v
value_of default (v ∷ w ∷ more) = None

abbrev pub prepend_value : Option Value → Option (List Value) → Option (List Value)
prepend_value None values = None
prepend_value (Some v) None = None
prepend_value (Some v) (Some values) = Some (v ∷ values)

-- the values of parameters in order, where each has one
abbrev pub values_of : List Formal → List Value → List Named → Option (List Value)
values_of [] args named = Some []
values_of (p ∷ params) args named = prepend_value (value_of p.1 (given_values p.0 (slice_get args 0) named)) (values_of params (drop 1 args) named)

abbrev pub is_parameter : List Formal → List ℕ → Bool
is_parameter params name = list_any (λ p. name_eq p.0 name) params

-- THE VALUES OF THE PARAMETERS, where the arguments fit them
abbrev pub bound : List Formal → List Value → List Named → Option (List Value)
bound params args named = if nat_lt (length params) (length args) || not (list_all (λ argument. is_parameter params argument.0) named) then None else values_of params args named

-- The same by causes. A name is that of a parameter
pub record IsParameter (params : List Formal) (name : List ℕ) : Type 0 where
  pub at : ℕ
  pub parameter : Formal
  pub is : slice_get params at ≡ Some parameter
  pub name_is : parameter.0 ≡ name

-- WHY ARGUMENTS ARE WRONG
pub data IsWrong (params : List Formal) (args : List Value) (named : List Named) : Type 0 where
  TooMany : length params < length args → IsWrong params args named
  NoParameter : (at : ℕ) (argument : Named) → slice_get named at ≡ Some argument → ¬ IsParameter params argument.0 → IsWrong params args named
  NoValue : (at : ℕ) (p : Formal) → slice_get params at ≡ Some p → given_values p.0 (slice_get args at) named ≡ [] → p.1 ≡ None → IsWrong params args named
  TwoValues : (at : ℕ) (p : Formal) (v w : Value) (more : List Value) → slice_get params at ≡ Some p → given_values p.0 (slice_get args at) named ≡ v ∷ w ∷ more → IsWrong params args named

-- ONE VALUE A PARAMETER
pub record IsBound (params : List Formal) (args : List Value) (named : List Named) (values : List Value) : Type 0 where
  pub few : length args ≤ length params
  pub known : (at : ℕ) (argument : Named) → slice_get named at ≡ Some argument → IsParameter params argument.0
  pub count : length values ≡ length params
  pub each : (at : ℕ) (p : Formal) → slice_get params at ≡ Some p → slice_get values at ≡ value_of p.1 (given_values p.0 (slice_get args at) named)
