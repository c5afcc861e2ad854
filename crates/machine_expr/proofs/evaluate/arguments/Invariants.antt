use Rattle.std.proofs.Common.{◌≡◌, ◌≤◌, ◌-◌, length, vec_len}
use Rattle.machine_state.specs.py_world.Arguments.{arguments_of}
use Rattle.machine_state.specs.py_world.Expressions.{call_on}
use Rattle.machine_state.specs.Places.{ends, parts_from}
use Rattle.machine_state.specs.Frames.{machine_rest, site_now, state_of}
use Rattle.machine_state.specs.Work.{weight_from}
use Rattle.machine_expr.proofs.evaluate.arguments.Given as goal

abbrev pub invariant-each : goal.invariant-each
invariant-each l =
    record {
      same : l.m ≡ record l.fn.m { left = l.m.left };
      fewer : l.m.left ≤ l.fn.m.left;
      lighter : weight_from (length l.so_far.items) l.es ≤ weight_from (length l.fn.so_far.items) l.es;
      goes_on : ends l.m.left (call_on l.callee (arguments_of l.names.value.items) (parts_from (length l.so_far.items) l.es) l.so_far.items (site_now l.m) (state_of l.m) (machine_rest l.m))
          ≡ ends l.fn.m.left (call_on l.callee (arguments_of l.names.value.items) (parts_from (length l.fn.so_far.items) l.es) l.fn.so_far.items (site_now l.fn.m) (state_of l.fn.m) (machine_rest l.fn.m));
    }

abbrev pub decreases-each : goal.decreases-each
decreases-each l = vec_len l.es.value - vec_len l.so_far
