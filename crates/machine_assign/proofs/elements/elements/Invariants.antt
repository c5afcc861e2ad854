use Rattle.std.proofs.Common.{◌≡◌, ◌-◌}
use Rattle.machine_turns.specs.py_world.Targets.{elements_from}
use Rattle.machine_assign.proofs.Taking.{behind}
use Rattle.machine_assign.proofs.elements.elements.Given as goal

abbrev pub invariant-loop-i : goal.invariant-loop-i
invariant-loop-i l = elements_from l.n l.v 0 l.n l.fn.heap ≡ behind l.vs.items (elements_from (l.n - l.i) l.v l.i l.n l.heap)
