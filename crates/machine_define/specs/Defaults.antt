-- The defaults of parameters, one after another.
use Rattle.std.specs.Prelude.{ℕ, Bool, List, ◌∷◌, ◌≡◌, drop, Option}
use Rattle.py_values.specs.declared.value.Value.{Value}
use Rattle.machine_state.specs.py_world.Definitions.{Written, with_defaults}

-- a parameter has this default among the values from a place on, and those behind it go on from the next place
abbrev pub takes_default : Bool → List Value → ℕ → Option Value → ℕ → Type 0
takes_default has vs at value next =
    (name : List ℕ) → (ps : List Written) → with_defaults ((name, has) ∷ ps) (drop at vs) ≡ record { name = name; default = value } ∷ with_defaults ps (drop next vs)
