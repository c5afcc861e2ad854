use Rattle.std.proofs.Common.{◌≡◌, drop}
use Rattle.machine_state.specs.py_world.Arguments.{arguments_of}
use Rattle.machine_state.specs.Places.{arguments_in}
use Rattle.machine_arguments.specs.Shapes.{joined_arguments}
use Rattle.machine_arguments.proofs.shape.shape_named.Given as goal

abbrev pub invariant-loop-i : goal.invariant-loop-i
invariant-loop-i l = arguments_of l.names l.values ≡ joined_arguments (arguments_in l.given) (arguments_of (drop l.i l.names) (drop l.i l.values))
