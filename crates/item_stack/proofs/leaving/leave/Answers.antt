use Rattle.std.proofs.Common.{[], ap, sym, subst}
use Rattle.item_stack.specs.States.{item_state}
use Rattle.session_rules.proofs.Standing.{own_stands}
use Rattle.session_rules.specs.Frames.{StandsWith}
use Rattle.item_stack.proofs.leaving.leave.Goals as goal

-- behind the finalizers of the test's own `request`
pub down_for-requires-clause-frames : goal.down_for-requires-clause-frames
down_for-requires-clause-frames g c =
    let rules = g.W.Executor.rules c.args.setting.now in
    subst (λ s. StandsWith s g.W.Executor.is_out []) (sym (ap (λ r. r.state) c.in_ok-raised.ensures))
    (own_stands g.W.Executor.is_out rules (g.met.W.Executor.keeps c.args.setting.now) [] (item_state rules c.args.world.now c.args.held.now) c.requires.frames)
