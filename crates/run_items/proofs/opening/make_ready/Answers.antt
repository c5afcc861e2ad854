use Rattle.std.proofs.Common.{◌∙◌, ap, [], List}
use Rattle.std.specs.Prelude.{option_map}
use Rattle.fixture_world.specs.Items.{item_in_session}
use Rattle.fixture_world.specs.runtest_rules.Language.{python}
use Rattle.hook_phases.specs.Steps.{item_where}
use Rattle.py_values.specs.declared.value.Value.{Value}
use Rattle.run_items.specs.Stands.{plan_rules, stand_state}
use Rattle.session_rules.specs.Session.{node_of, with_nextitem}
use Rattle.session_rules.specs.Teardown.{SessionState}
use Rattle.run_items.proofs.opening.make_ready.Goals as goal

pub returns : goal.returns
returns c =
    let plan = c.args.plan.now in
    let next = node_of (item_where (item_in_session plan.table) (option_map (λ item. item.now) c.args.next)) in
    ap (λ (values : List Value). record (stand_state c.make_next.new.stand) { values = values }) c.new.ensures
    ∙ ap (λ (t : SessionState python). record t { values = [] })
    (c.in_ok-make_next.ensures ∙ ap (λ (t : SessionState python). with_nextitem (plan_rules plan) next t) c.in_ok-make_object.ensures)
