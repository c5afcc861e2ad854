use Rattle.std.proofs.Common.{◌≡◌, ◌++◌, drop, map, take}
use Rattle.core_meaning.specs.py_world.Runs.{failed}
use Rattle.machine_state.proofs.modules.fail_each.Given as goal

abbrev pub invariant-loop-at : goal.invariant-loop-at
invariant-loop-at l = l.modules.entries ≡ map (failed l.exc l.trace) (take l.at l.initial.modules.entries) ++ drop l.at l.initial.modules.entries
