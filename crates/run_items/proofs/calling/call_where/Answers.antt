use Rattle.std.proofs.Common.{◌∙◌, ap, sym, List, Option, Some}
use Rattle.fixture_world.specs.Items.{item_in_session}
use Rattle.py_values.specs.declared.value.Value.{Value}
use Rattle.run_items.specs.Stands.{plan_rules, stand_state}
use Rattle.session_rules.specs.Session.{test_with}
use Rattle.run_items.proofs.calling.call_where.Goals as goal

pub returns-in_ok-failure-in-Some : goal.returns-in_ok-failure-in-Some
returns-in_ok-failure-in-Some c =
    c.in_ok-failure-in-Some.ensures
    ∙ ap (λ (o : Option (List Value)). test_with (plan_rules c.args.plan.now) (item_in_session c.args.plan.now.table c.args.item.now) o (stand_state c.args.stand.now)) (ap (λ (l : List Value). Some l) c.items.ensures ∙ sym c.in-Some.is)

pub returns-in_ok-failure-in-None : goal.returns-in_ok-failure-in-None
returns-in_ok-failure-in-None c =
    c.in_ok-failure-in-None.ensures
    ∙ ap (λ (o : Option (List Value)). test_with (plan_rules c.args.plan.now) (item_in_session c.args.plan.now.table c.args.item.now) o (stand_state c.args.stand.now)) (sym c.in-None.is)
