use Rattle.std.proofs.Common.{◌∙◌, ap, map}
use Rattle.live_chains.specs.Chained.{id_order}
use Rattle.setup_stack.proofs.Downs.{left_for}
use Rattle.setup_stack.proofs.stack.leave.Goals as goal

pub returns-clause-down : goal.returns-clause-down
returns-clause-down g c =
    c.in_ok-down_each.ensures.down
    ∙ left_for (g.W.Executor.rules c.args.setting.now) c.args.chain.now (map id_order c.deref.result.now) c.new-raised.result c.new.result c.args.world.now c.args.stack.now c.new-raised.ensures c.new.ensures (ap (map id_order) c.deref.ensures.value ∙ c.in_ok-going.ensures.same)

pub down_each-requires-clause-live : goal.down_each-requires-clause-live
down_each-requires-clause-live g c = λ i h. c.in_ok-going.ensures.live i (rw c.deref.ensures.value at h)

pub down_each-requires-clause-frames : goal.down_each-requires-clause-frames
down_each-requires-clause-frames g c = c.requires.frames
