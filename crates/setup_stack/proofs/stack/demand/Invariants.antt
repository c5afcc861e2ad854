use Rattle.std.proofs.Common.{◌≡◌, [], length}
use Rattle.session_rules.specs.Demand.{demand}
use Rattle.session_rules.specs.Frames.{StandsWith}
use Rattle.setup_stack.specs.Asking.{IsWithinDepth, left_of, stack_turns}
use Rattle.fixture_instances.specs.Items.{item_for_session}
use Rattle.fixture_instances.specs.Views.{live_instances}
use Rattle.setup_stack.specs.Standing.{AllStand}
use Rattle.setup_stack.specs.Views.{stack_state}
use Rattle.setup_stack.proofs.stack.demand.Given as goal

abbrev pub invariant-asking : goal.invariant-asking
invariant-asking g l = record {
  deep : IsWithinDepth (g.W.Executor.rules l.setting) (item_for_session l.table l.item) (length l.table.defs) (g.W.Executor.rules l.setting).depth l.below.items l.top;
  same : demand (g.W.Executor.rules l.setting) (item_for_session l.table l.item) (g.W.Executor.rules l.setting).depth l.fn.def (stack_state (g.W.Executor.rules l.setting) l.fn.world l.fn.stack) ≡ left_of (g.W.Executor.rules l.setting) (item_for_session l.table l.item) (g.W.Executor.rules l.setting).depth l.below.items l.top (stack_state (g.W.Executor.rules l.setting) l.world l.stack);
  stand : AllStand (g.W.Executor.rules l.setting) (item_for_session l.table l.item) (live_instances (g.W.Executor.rules l.setting) l.stack.live.live) l.marks.items;
  frames : StandsWith (stack_state (g.W.Executor.rules l.setting) l.world l.stack) g.W.Executor.is_out [];
}

abbrev pub decreases-asking : goal.decreases-asking
decreases-asking g l = stack_turns (item_for_session l.table l.item) (g.W.Executor.rules l.setting).depth l.below.items l.top
