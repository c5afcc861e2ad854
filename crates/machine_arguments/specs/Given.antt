-- The value that a call gives a parameter.
use Rattle.std.specs.Prelude.{Option, Some, None}
use Rattle.py_values.specs.declared.rows.Param.{Param}
use Rattle.py_values.specs.declared.value.Value.{Value}
use Rattle.py_values.specs.Names.{find_name, unbind_name}
use Rattle.machine_state.specs.py_world.World.{Locals}

-- the argument by name where there is one, which is used up, or else the default
abbrev pub named_at : Option Value → Param → Locals → Option Value × Locals
named_at (Some v) p named = (Some v, unbind_name p.name named)
named_at None p named = (p.default, named)

-- the argument by position where there is one, and the arguments by name that are left
abbrev pub given_at : Param → Option Value → Locals → Option Value × Locals
given_at p (Some v) named = (Some v, named)
given_at p None named = named_at (find_name p.name named) p named
