use Rattle.std.proofs.Common.{◌≡◌, [], drop}
use Rattle.machine_state.specs.py_world.Arguments.{fitted}
use Rattle.machine_arguments.proofs.arguments.fit.Given as goal

abbrev pub invariant-loop-i : goal.invariant-loop-i
invariant-loop-i l = fitted l.fn.params l.fn.args l.fn.by_name [] ≡ fitted (drop l.i l.fn.params) (drop l.i l.fn.args) l.named l.names
