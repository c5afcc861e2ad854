-- What the look for the next element of a `for` tells.
use Rattle.std.specs.Prelude.{Option, Some, None}
use Rattle.py_values.specs.declared.end.Effect.{Effect}
use Rattle.py_values.specs.declared.end.Effect.TheVariants.{Give, New, Put, Fail}
use Rattle.machine_flow.specs.declared.turns.Look.{Look}
use Rattle.machine_flow.specs.declared.turns.Look.TheVariants.{Over, There, Failed}

abbrev pub look_of : Option Effect → Look
look_of None = Over
look_of (Some (Give v n)) = There
look_of (Some (New o n)) = There
look_of (Some (Put id change v n)) = There
look_of (Some (Fail r n)) = Failed r
