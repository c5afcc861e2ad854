-- What a call's parameters are given, as `bind` says it, and the local names that come of it (Language Reference, calls).
use Rattle.std.specs.Prelude.{◌≡◌, false, List, [], ◌∷◌}
use Rattle.py_values.specs.declared.rows.Param.{Param}
use Rattle.py_values.specs.declared.value.Value.{Value}
use Rattle.py_bind.specs.Binding.{Formal, is_parameter}
use Rattle.source_meaning.specs.py_world.World.{Locals}

-- parameters as `bind` is given them
abbrev pub formals : List Param → List Formal
formals [] = []
formals (p ∷ ps) = (p.name, p.default) ∷ formals ps

-- each parameter's name with its value
abbrev pub locals_with : List Param → List Value → Locals
locals_with [] vs = []
locals_with (p ∷ ps) [] = []
locals_with (p ∷ ps) (v ∷ vs) = (p.name, v) ∷ locals_with ps vs

-- no parameter has the name of one before it
abbrev pub NamesDiffer : List Param → Type 0
NamesDiffer [] = Unit {0}
NamesDiffer (p ∷ ps) = (is_parameter (formals ps) p.name ≡ false) × NamesDiffer ps
