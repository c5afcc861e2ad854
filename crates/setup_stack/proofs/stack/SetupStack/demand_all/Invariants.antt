use Rattle.std.proofs.Common.{◌≡◌, [], length}
use Rattle.fixture_instances.specs.Items.{item_for_session}
use Rattle.fixture_instances.specs.Views.{live_instances}
use Rattle.session_rules.specs.Frames.{StandsWith}
use Rattle.session_rules.specs.Session.{demand_closure}
use Rattle.setup_stack.specs.Asking.{AreReady}
use Rattle.setup_stack.specs.Standing.{AllStand}
use Rattle.setup_stack.specs.Views.{stack_state}
use Rattle.setup_stack.proofs.stack.SetupStack.demand_all.Given as goal

abbrev pub invariant-defs : goal.invariant-defs
invariant-defs g l = record {
  same : demand_closure (g.W.Executor.rules l.setting) (item_for_session l.table l.item) l.rest (stack_state (g.W.Executor.rules l.setting) l.world l.self) ≡ demand_closure (g.W.Executor.rules l.setting) (item_for_session l.table l.item) l.defs (stack_state (g.W.Executor.rules l.setting) l.fn.world (record l.fn.self { own = l.item.own }));
  ready : AreReady (g.W.Executor.rules l.setting) (item_for_session l.table l.item) (length l.table.defs) (g.W.Executor.rules l.setting).depth l.rest;
  stand : AllStand (g.W.Executor.rules l.setting) (item_for_session l.table l.item) (live_instances (g.W.Executor.rules l.setting) l.self.live.live) l.marks.items;
  frames : StandsWith (stack_state (g.W.Executor.rules l.setting) l.world l.self) g.W.Executor.is_out [];
}

abbrev pub decreases-defs : goal.decreases-defs
decreases-defs g l = length l.rest
