use Rattle.std.proofs.Common.{◌≡◌, length}
use Rattle.fixture_instances.specs.Items.{item_for_session}
use Rattle.setup_stack.specs.Asking.{AreReady}
use Rattle.demand_tests.specs.Logs.{FramesAreOut, logging}
use Rattle.demand_tests.proofs.benches.demand_each.Given as goal

abbrev pub invariant-defs : goal.invariant-defs
invariant-defs l = record {
  frames : FramesAreOut l.bench.script l.bench.world l.bench.stack;
  script : l.bench.script ≡ l.fn.bench.script;
  table : l.bench.table ≡ l.fn.bench.table;
  ready : AreReady (logging l.fn.bench.script) (item_for_session l.fn.bench.table l.item) (length l.fn.bench.table.defs) (length l.fn.bench.script.parts) l.rest;
}

abbrev pub decreases-defs : goal.decreases-defs
decreases-defs l = length l.rest
