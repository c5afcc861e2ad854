use Rattle.std.proofs.Common.{ℕ, ◌∙◌, ap, ap₂, List, Option}
use Rattle.fixture_world.specs.fixture_calls.declared.failure.Failure.{Failure}
use Rattle.fixture_world.specs.Items.{item_in_session}
use Rattle.item_stack.proofs.Values.{values_same}
use Rattle.item_stack.specs.Answers.{values_given}
use Rattle.py_values.specs.declared.value.Value.{Value}
use Rattle.run_items.specs.Stands.{plan_rules, stand_state}
use Rattle.fixture_world.specs.runtest_rules.Language.{python}
use Rattle.session_rules.specs.Session.{test_with}
use Rattle.session_rules.specs.Teardown.{session_step}
use Rattle.item_stack.specs.setup_stack.declared.answers.Grant.{Grant}
use Rattle.run_items.proofs.calling.call_asked.Goals as goal

pub returns : goal.returns
returns c =
    let stand = c.args.stand.now in
    let item = c.args.item.now in
    ap (λ (raised : List Failure). session_step raised (stand_state c.call_where.new.stand)) c.in_ok-raised.ensures
    ∙ (c.in_ok-failure.ensures
    ∙ ap (λ (o : Option (List Value)). test_with (plan_rules c.args.plan.now) (item_in_session c.args.plan.now.table item) o (stand_state stand))
    (c.in_ok-values.ensures
    ∙ (ap₂ (λ (given : List (Grant Value)) (asked : List (Option ℕ)). values_given given asked) c.items-given.ensures c.items-asked.ensures
    ∙ values_same python stand.stack.stack.given item.asked)))
