use Rattle.std.proofs.Common.{◌≡◌}
use Rattle.machine_state.specs.Places.{ends}
use Rattle.machine_state.specs.Frames.{todo_entry}
use Rattle.py_machine.proofs.calls.run_entry.Given as goal

abbrev pub invariant-loop : goal.invariant-loop
invariant-loop l = ends l.fn.m.left (todo_entry l.fn.entry l.fn.m) ≡ ends l.m.left (todo_entry l.entry l.m)
