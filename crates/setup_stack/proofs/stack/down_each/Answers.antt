use Rattle.std.proofs.Common.{arith, refl}
use Rattle.setup_stack.specs.Views.{stack_state}
use Rattle.setup_stack.proofs.Downs.{down_done, down_step_at, there_at}
use Rattle.setup_stack.proofs.stack.down_each.Goals as goal

pub loop-id-init : goal.loop-id-init
loop-id-init g c = record { down = refl; live = refl; there = c.requires.live; once = c.requires.once; frames = c.requires.frames }

pub down-requires-clause-frames : goal.down-requires-clause-frames
down-requires-clause-frames g c = c.loop-id.invariant.frames

pub down-requires-clause-live : goal.down-requires-clause-live
down-requires-clause-live g c = there_at c.args.ids.now c.loop-id.id-index _ c.loop-id.stack.live.ids (omega arith) c.loop-id.invariant.there

pub loop-id-preserved : goal.loop-id-preserved
loop-id-preserved g c =
    down_step_at (g.W.Executor.rules c.args.setting.now) g.W.Executor.is_out (g.met.W.Executor.keeps c.args.setting.now) c.args.ids.now c.args.raised.now (stack_state (g.W.Executor.rules c.args.setting.now) c.args.world.now c.args.stack.now) c.args.stack.now.live.live c.loop-id.id-index _ c.loop-id.raised c.down.new.raised c.loop-id.world c.down.new.world c.loop-id.stack c.down.new.stack
    (omega arith) c.loop-id.invariant c.in_ok-down.ensures.state c.in_ok-down.ensures.raised c.in_ok-down.ensures.ids c.in_ok-down.ensures.live

pub returns-clause-down : goal.returns-clause-down
returns-clause-down g c = (down_done (g.W.Executor.rules c.args.setting.now) g.W.Executor.is_out c.args.ids.now c.args.raised.now (stack_state (g.W.Executor.rules c.args.setting.now) c.args.world.now c.args.stack.now) c.args.stack.now.live.live c.loop-id.id-index c.loop-id.raised c.loop-id.world c.loop-id.stack c.loop-id-test.false c.loop-id.invariant).0

pub returns-clause-live : goal.returns-clause-live
returns-clause-live g c = (down_done (g.W.Executor.rules c.args.setting.now) g.W.Executor.is_out c.args.ids.now c.args.raised.now (stack_state (g.W.Executor.rules c.args.setting.now) c.args.world.now c.args.stack.now) c.args.stack.now.live.live c.loop-id.id-index c.loop-id.raised c.loop-id.world c.loop-id.stack c.loop-id-test.false c.loop-id.invariant).1

pub returns-clause-frames : goal.returns-clause-frames
returns-clause-frames g c = c.loop-id.invariant.frames
