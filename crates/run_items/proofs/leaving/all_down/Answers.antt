use Rattle.item_stack.proofs.Course.{down_in_course}
use Rattle.item_stack.specs.States.{item_state}
use Rattle.run_items.specs.Stands.{plan_rules, stand_state}
use Rattle.run_items.proofs.leaving.all_down.Goals as goal

pub all_down-requires-clause-tree : goal.all_down-requires-clause-tree
all_down-requires-clause-tree c = c.requires.plan.tree

pub all_down-requires-clause-left : goal.all_down-requires-clause-left
all_down-requires-clause-left c = c.requires.left

pub returns-clause-state : goal.returns-clause-state
returns-clause-state c =
    let rules = plan_rules c.args.plan.now in
    let stand = c.args.stand.now in
    down_in_course rules (stand_state stand) c.in_ok-raised.raised (item_state rules stand.world stand.stack) (item_state rules c.all_down.new.world c.all_down.new.held) c.in_ok-raised.ensures.state

pub all_down-requires-clause-frames : goal.all_down-requires-clause-frames
all_down-requires-clause-frames c = c.requires.frames

pub returns-clause-frames : goal.returns-clause-frames
returns-clause-frames c = c.in_ok-raised.ensures.frames
