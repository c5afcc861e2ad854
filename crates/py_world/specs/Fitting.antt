-- The value of a parameter in a call by position alone.
use Rattle.std.specs.Prelude.{ℕ, List, Option, Some, None, slice_get}
use Rattle.py_values.specs.declared.rows.Param.{Param}
use Rattle.py_values.specs.declared.value.Value.{Value}

abbrev pub argument_or : Option Value → Option Value → Option Value
argument_or (Some v) default = Some v
argument_or None default = default

abbrev pub value_given : Param → List Value → ℕ → Option Value
value_given p args at = argument_or (slice_get args at) p.default
