use Rattle.item_stack.proofs.Left.{down_same}
use Rattle.item_stack.specs.States.{item_state}
use Rattle.item_stack.proofs.leaving.all_down.Goals as goal

pub returns-clause-state : goal.returns-clause-state
returns-clause-state g c =
    let rules = g.W.Executor.rules c.args.setting.now in
    down_same rules (item_state rules c.args.world.now c.args.held.now) c.in_ok-raised.raised (item_state rules c.down_for.new.world c.down_for.new.held) c.requires.left c.in_ok-raised.ensures.state
