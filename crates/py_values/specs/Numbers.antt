-- The numbers that values are.
use Rattle.std.specs.Prelude.{ℤ, pos, if◌then◌else◌, Option, Some, None}
use Rattle.py_values.specs.declared.value.Value.{Value}
use Rattle.py_values.specs.declared.value.Value.TheVariants as val

-- booleans are the numbers 0 and 1
abbrev pub int_value : Value → Option ℤ
int_value val.None = None
int_value (val.Bool b) = Some (if b then pos 1 else pos 0)
int_value (val.Int z) = Some z
int_value (val.Ref id) = None
