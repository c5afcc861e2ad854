use Rattle.std.proofs.Common.{◌∙◌, List, ap}
use Rattle.fixture_instances.specs.Items.{item_for_session}
use Rattle.session_types.specs.Live.{find}
use Rattle.session_rules.specs.Demand.{settle}
use Rattle.setup_stack.specs.declared.answers.Grant.{Grant as CodeGrant}
use Rattle.setup_stack.specs.Views.{grants_of, stack_state}
use Rattle.setup_stack.proofs.stack.settle_bare.Goals as goal

pub returns-clause-answer : goal.returns-clause-answer
returns-clause-answer g c =
    let rules = g.W.Executor.rules c.args.setting.now in
    let item = item_for_session c.args.table.now c.args.item.now in
    let s = stack_state rules c.args.world.now c.args.stack.now in
    c.in_ok-answer.ensures.answer ∙ ap (λ (l : List (CodeGrant g.row.W-Value.Denot)). (settle rules item c.args.def (grants_of rules l) (find c.args.def (item.place c.args.def) s.live) s).answer) (c.items.ensures ∙ c.new-none.ensures)

pub returns-clause-state : goal.returns-clause-state
returns-clause-state g c =
    let rules = g.W.Executor.rules c.args.setting.now in
    let item = item_for_session c.args.table.now c.args.item.now in
    let s = stack_state rules c.args.world.now c.args.stack.now in
    c.in_ok-answer.ensures.state ∙ ap (λ (l : List (CodeGrant g.row.W-Value.Denot)). (settle rules item c.args.def (grants_of rules l) (find c.args.def (item.place c.args.def) s.live) s).state) (c.items.ensures ∙ c.new-none.ensures)
