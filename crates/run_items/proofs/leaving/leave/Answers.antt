use Rattle.std.proofs.Common.{ℕ, ◌∙◌, ap, subst, sym, List, Option}
use Rattle.std.specs.Prelude.{option_map}
use Rattle.fixture_world.specs.Items.{item_in_session}
use Rattle.hook_phases.specs.Steps.{item_where}
use Rattle.item_stack.proofs.Course.{left_in_course}
use Rattle.item_stack.specs.Leaving.{IsNextItem, chain_for, left_for}
use Rattle.item_stack.specs.States.{item_state}
use Rattle.run_items.proofs.Doings.{next_chain, next_stands}
use Rattle.run_items.specs.Stands.{plan_rules, stand_state}
use Rattle.run_items.proofs.leaving.leave.Goals as goal

pub leave-requires-clause-tree : goal.leave-requires-clause-tree
leave-requires-clause-tree c = c.requires.plan.tree

pub leave-requires-clause-next : goal.leave-requires-clause-next
leave-requires-clause-next c =
    subst (λ (o : Option ℕ). IsNextItem c.args.plan.now.table o) (sym c.node_of-node.ensures) (next_stands c.args.plan.now (option_map (λ item. item.now) c.args.next) c.requires.next)

pub returns : goal.returns
returns c =
    let plan = c.args.plan.now in
    let rules = plan_rules plan in
    let stand = c.args.stand.now in
    let next = option_map (λ item. item.now) c.args.next in
    left_in_course rules (item_where (item_in_session plan.table) next) (stand_state stand) c.in_ok-raised.raised (item_state rules stand.world stand.stack) (item_state rules c.leave.new.world c.leave.new.held)
    (c.in_ok-raised.ensures.state
    ∙ ap (λ (chain : List ℕ). left_for rules chain (item_state rules stand.world stand.stack)) (ap (λ (o : Option ℕ). chain_for plan.table o) c.node_of-node.ensures ∙ next_chain plan next))

pub leave-requires-clause-frames : goal.leave-requires-clause-frames
leave-requires-clause-frames c = c.requires.frames
