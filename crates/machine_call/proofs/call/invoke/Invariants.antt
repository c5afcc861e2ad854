use Rattle.std.proofs.Common.{◌≡◌, ◌≤◌}
use Rattle.machine_state.specs.py_world.Calls.{invoke}
use Rattle.machine_state.specs.core_meaning.Statements.{entry}
use Rattle.machine_state.specs.Places.{arguments_in, ends}
use Rattle.machine_state.specs.Frames.{around_by, state_of}
use Rattle.machine_call.specs.Depth.{Ready}
use Rattle.machine_call.specs.Called.{call_rest}
use Rattle.machine_call.proofs.call.invoke.Given as goal

abbrev pub invariant-inits : goal.invariant-inits
invariant-inits l = record {
  same : ends l.fn.m.left (invoke entry l.fn.callee (arguments_in l.args) (around_by l.origin l.fn.m) (state_of l.fn.m) (call_rest l.fn.m))
      ≡ ends l.m.left (invoke entry l.callee (arguments_in l.args) (around_by l.origin l.m) (state_of l.m) (call_rest l.m));
  ready : Ready l.origin l.m;
  left : l.m.left ≤ l.fn.m.left;
}

abbrev pub decreases-inits : goal.decreases-inits
decreases-inits l = l.m.left
