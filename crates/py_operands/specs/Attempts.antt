-- An operator that two kinds may not have.
use Rattle.std.specs.Prelude.{ℕ, nat_lt, if◌then◌else◌, Option, Some, None}
use Rattle.py_operands.specs.declared.attempt.Attempt.{Attempt}
use Rattle.py_operands.specs.declared.attempt.Attempt.TheVariants as attempt
use Rattle.py_values.specs.Ends.{cost_of}
use Rattle.py_values.specs.declared.end.Effect.{Effect}

-- what comes of it under a budget
abbrev pub attempted : ℕ → Option Effect → Attempt
attempted budget None = attempt.Unsupported
attempted budget (Some m) = if nat_lt budget (cost_of m) then attempt.Exhausted else attempt.Made m
