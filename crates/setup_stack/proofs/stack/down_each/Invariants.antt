use Rattle.std.proofs.Common.{drop}
use Rattle.setup_stack.specs.Views.{stack_state}
use Rattle.setup_stack.proofs.Downs.{DownStep}
use Rattle.setup_stack.proofs.stack.down_each.Given as goal

abbrev pub invariant-loop-id : goal.invariant-loop-id
invariant-loop-id g l = DownStep (g.W.Executor.rules l.setting) g.W.Executor.is_out l.ids l.fn.raised (stack_state (g.W.Executor.rules l.setting) l.fn.world l.fn.stack) l.fn.stack.live.live (drop l.id-index l.ids) l.raised l.world l.stack
