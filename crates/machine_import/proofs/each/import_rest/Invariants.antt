use Rattle.std.proofs.Common.{◌≡◌, drop}
use Rattle.machine_state.specs.py_world.Imports.{import_each}
use Rattle.machine_state.specs.core_meaning.Statements.{core_body}
use Rattle.machine_state.specs.Frames.{machine_rest, site_now, state_of}
use Rattle.machine_import.proofs.each.import_rest.Given as goal

abbrev pub invariant-loop-at : goal.invariant-loop-at
invariant-loop-at l = record {
  same : import_each core_body l.found l.dotted.value.items (drop l.from l.all.value.items) (site_now l.fn.m) (state_of l.fn.m) (machine_rest l.fn.m)
      ≡ import_each core_body l.found l.dotted.value.items (drop l.at l.all.value.items) (site_now l.m) (state_of l.m) (machine_rest l.m);
  left : l.m.left ≡ l.fn.m.left;
  stack : l.m.stack ≡ l.fn.m.stack;
}
