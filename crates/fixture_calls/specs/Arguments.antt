-- The arguments of a test's or a fixture's function (pytest's reference, "Fixtures"): the instance of its class first, where it stands in
-- one; then in order the `request`, what the row of the item binds, and the values of the others.
use Rattle.std.specs.Prelude.{ℕ, Bool, List, [], ◌∷◌, ◌++◌, Option, Some, None, codes, if◌then◌else◌}
use Rattle.std.specs.List.{list_any}
use Rattle.std.specs.Option.{option_to_list}
use Rattle.py_values.specs.Names.{name_eq}
use Rattle.py_values.specs.declared.value.Value.{Value}
use Rattle.test_suite.specs.declared.item.BoundArgument.{BoundArgument}

abbrev pub names_request : List ℕ → Bool
names_request name = name_eq (codes "request") name

-- whether `request` is among these arguments
abbrev pub asks_request : List (List ℕ) → Bool
asks_request names = list_any names_request names

-- the value that a row binds to a name
abbrev pub bound_to : List BoundArgument → List ℕ → Option Value
bound_to [] name = None
bound_to (b ∷ bound) name = if name_eq b.name name then Some b.value else bound_to bound name

abbrev pub value_then : (List Value → List Value) → List Value → List Value
value_then others [] = others []
value_then others (v ∷ vs) = v ∷ others vs

-- a bound value, or else the next of the values
abbrev pub bound_then : Option Value → (List Value → List Value) → List Value → List Value
bound_then (Some v) others values = v ∷ others values
bound_then None others values = value_then others values

-- what arguments get: `request` gets the request, a bound name its value, and each other one the next of the values
abbrev pub in_order : List BoundArgument → List (List ℕ) → Option Value → List Value → List Value
in_order bound [] request values = []
in_order bound (name ∷ names) request values =
    if names_request name then option_to_list request ++ in_order bound names request values
    else bound_then (bound_to bound name) (in_order bound names request) values

-- the instance first, where there is one
abbrev pub positional : Option Value → List BoundArgument → List (List ℕ) → Option Value → List Value → List Value
positional own bound names request values = option_to_list own ++ in_order bound names request values
