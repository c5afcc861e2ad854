use Rattle.std.proofs.Common.{◌≡◌, [], List, ap₂, option_map, subst, ◌∙◌}
use Rattle.std.specs.Prelude.{IfOk}
use Rattle.fixture_instances.specs.Views.{live_instances}
use Rattle.run_items.specs.fixture_world.declared.setting.RunSetting.{RunSetting}
use Rattle.run_items.specs.runtest_rules.Rules.{rules_within}
use Rattle.session_rules.specs.Teardown.{down_all, session_step}
use Rattle.session_types.specs.Live.{not_on}
use Rattle.setup_stack.specs.SetUps.{next_chain}
use Rattle.setup_stack.specs.Views.{stack_state}
use Rattle.test_session.specs.Stacks.{suite_of}
use Rattle.test_suite.specs.declared.fixture.Fixture.{Fixture}
use Rattle.test_suite.specs.declared.item.Item.{Item}
use Rattle.test_session.proofs.setting_up.leave_as.Goals as goal

pub returns-clause-left : goal.returns-clause-left
returns-clause-left c =
    let stack = c.args.stack.now in
    let next = option_map (λ item. item.now) c.args.next in
    subst (λ (r : RunSetting).
    IfOk c.leave_in-raised.result
    (λ raised.
    session_step raised (stack_state (rules_within r.limit r.suite) c.leave_in-raised.new.world c.leave_in-raised.new.stand.stack.stack)
    ≡ down_all (rules_within r.limit r.suite) (not_on (next_chain stack.plan.table next) (live_instances (rules_within r.limit r.suite) stack.stand.stack.stack.live.live))
    (stack_state (rules_within r.limit r.suite) c.args.world.now (record stack.stand.stack.stack { given = [] }))))
    (c.setting_of-setting.ensures ∙ ap₂ (λ (is : List Item) (fs : List Fixture). record { limit = c.args.limit; suite = suite_of is fs 0 }) c.new-2.ensures c.replace-fixtures.ensures.value)
    c.leave_in-raised.ensures.left
