use Rattle.std.proofs.Common.{◌≡◌}
use Rattle.machine_state.specs.Places.{ends}
use Rattle.machine_state.specs.Frames.{ending, todo_entry}
use Rattle.machine_stmt.specs.Stops.{SpendsOrEnters}
use Rattle.machine_stmt.proofs.run.advance.Given as goal

abbrev pub invariant-loop : goal.invariant-loop
invariant-loop l = record {
  same : ends l.fn.m.left (todo_entry l.fn.entry l.fn.m) ≡ ending l.turned l.m;
  spent : SpendsOrEnters l.turned l.m l.fn.m.left;
}
