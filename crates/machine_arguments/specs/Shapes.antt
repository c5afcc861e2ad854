-- The arguments of a call, those so far and those that are still to come.
use Rattle.std.specs.Prelude.{ℕ, List, [], ◌∷◌, ◌++◌, Option, Some, None}
use Rattle.py_tree.specs.declared.expr.ArgName.{ArgName}
use Rattle.py_values.specs.declared.value.Value.{Value}
use Rattle.machine_state.specs.py_world.Arguments.{Arguments}

-- the name that is given to an argument
abbrev pub name_given : Option (Option ArgName) → Option (List ℕ)
name_given (Some (Some n)) = Some n.name
name_given (Some None) = None
name_given None = None

-- arguments with one more, by name or by position
abbrev pub with_given : Option (List ℕ) → Value → Arguments → Arguments
with_given (Some name) v args = record { plain = args.plain; named = args.named ++ (name, v) ∷ [] }
with_given None v args = record { plain = args.plain ++ v ∷ []; named = args.named }

-- arguments behind those so far
abbrev pub joined_arguments : Arguments → Arguments → Arguments
joined_arguments front back = record { plain = front.plain ++ back.plain; named = front.named ++ back.named }
