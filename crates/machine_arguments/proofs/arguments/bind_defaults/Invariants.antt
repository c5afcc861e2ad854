use Rattle.std.proofs.Common.{◌≡◌, [], drop, take}
use Rattle.machine_state.specs.py_world.Arguments.{fitted}
use Rattle.machine_arguments.proofs.arguments.bind_defaults.Given as goal

abbrev pub invariant-loop-i : goal.invariant-loop-i
invariant-loop-i l = fitted (drop l.fn.at l.fn.params) [] [] (take l.fn.at l.fn.bound) ≡ fitted (drop l.i l.fn.params) [] [] l.bound
