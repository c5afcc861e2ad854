use Rattle.fixture_instances.specs.Items.{item_for_session}
use Rattle.setup_stack.specs.Views.{stack_state}
use Rattle.setup_stack.proofs.Demands.{closure_ends, closure_goes}
use Rattle.setup_stack.proofs.stack.demand_noted.Goals as goal

pub returns-in-Refused-clause-noted : goal.returns-in-Refused-clause-noted
returns-in-Refused-clause-noted g c =
    λ ds.
    let rules = g.W.Executor.rules c.args.setting.now in
    closure_ends rules (item_for_session c.args.table.now c.args.item.now) c.args.def ds (stack_state rules c.args.world.now c.args.stack.now) c.in_ok-answer.answer c.demand.new.world c.demand.new.stack c.in_ok-answer.ensures.answer c.in-Refused.raised c.in-Refused.is

pub returns-in_ok-push-in-Given-clause-noted : goal.returns-in_ok-push-in-Given-clause-noted
returns-in_ok-push-in-Given-clause-noted g c =
    λ ds.
    let rules = g.W.Executor.rules c.args.setting.now in
    closure_goes rules (item_for_session c.args.table.now c.args.item.now) c.args.def ds (stack_state rules c.args.world.now c.args.stack.now) c.in_ok-answer.answer c.demand.new.world c.demand.new.stack c.in_ok-answer.ensures.answer c.in-Given.grant c.push.new.self c.in-Given.is c.in_ok-push-in-Given.ensures.ok
