-- The arguments of calls, and what a function's parameters are given (Language Reference, calls).
use Rattle.std.specs.Prelude.{ℕ, List, [], ◌∷◌, Option, Some, None}
use Rattle.py_tree.specs.declared.expr.ArgName.{ArgName}
use Rattle.py_values.specs.declared.rows.Param.{Param}
use Rattle.py_values.specs.declared.value.Value.{Value}
use Rattle.py_values.specs.Names.{find_name, bind_name, unbind_name}
use Rattle.py_world.specs.World.{Locals}

-- arguments by position, and by name
pub record Arguments : Type 0 where
  pub plain : List Value
  pub named : List (List ℕ × Value)

-- arguments by position alone
abbrev pub positional_arguments : List Value → Arguments
positional_arguments vs = record { plain = vs; named = [] }

abbrev pub with_plain : Value → Arguments → Arguments
with_plain v args = record { plain = v ∷ args.plain; named = args.named }

abbrev pub with_named : List ℕ → Value → Arguments → Arguments
with_named name v args = record { plain = args.plain; named = (name, v) ∷ args.named }

-- the values of a call's arguments in the order of the text, and the name of each that has one
abbrev pub arguments_of : List (Option ArgName) → List Value → Arguments
arguments_of names [] = positional_arguments []
arguments_of [] (v ∷ vs) = with_plain v (arguments_of [] vs)
arguments_of (None ∷ names) (v ∷ vs) = with_plain v (arguments_of names vs)
arguments_of (Some n ∷ names) (v ∷ vs) = with_named n.name v (arguments_of names vs)

-- a parameter without default
abbrev pub required : List ℕ → Param
required name = record { name = name; default = None }

-- the value by name where there is one, or else the default
abbrev pub given_or : Option Value → Option Value → (Value → Option Locals) → (Value → Option Locals) → Option Locals
given_or (Some v) default given other = given v
given_or None (Some v) given other = other v
given_or None None given other = None

-- THE LOCAL NAMES with which a function begins, behind those so far: each parameter has its argument by position, its argument by
-- name or its default, and each argument has its parameter; there are none where that is not so
abbrev pub fitted : List Param → List Value → List (List ℕ × Value) → Locals → Option Locals
fitted [] [] [] names = Some names
fitted [] [] (n ∷ named) names = None
fitted [] (v ∷ vs) named names = None
fitted (p ∷ ps) (v ∷ vs) named names = fitted ps vs named (bind_name p.name v names)
fitted (p ∷ ps) [] named names =
    given_or (find_name p.name named) p.default (λ v. fitted ps [] (unbind_name p.name named) (bind_name p.name v names)) (λ v. fitted ps [] named (bind_name p.name v names))
