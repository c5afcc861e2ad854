-- Where a session over sources runs: a world, and what is set up in it.
use Rattle.std.specs.Prelude.{◌≡◌, ℕ, ◌<◌, false, [], Option, Some, None, length, map}
use Rattle.fixture_table.specs.Tree.{IsTree}
use Rattle.fixture_world.specs.Items.{item_in_session, selected_item}
use Rattle.hook_order.specs.HookOrder.{InHookOrder}
use Rattle.item_stack.specs.States.{IsNew, item_state}
use Rattle.runtest_reports.specs.report_rules.Collected.{FixtureTexts, SelectedItem}
use Rattle.run_items.specs.Texts.{fixture_texts}
use Rattle.run_items.specs.declared.plan.Plan.{Plan}
use Rattle.run_items.specs.declared.stand.ItemObject.{ItemObject}
use Rattle.run_items.specs.declared.stand.Stand.{Stand}
use Rattle.fixture_world.specs.runtest_rules.Language.{python}
use Rattle.fixture_world.specs.runtest_rules.Rules.{impls_of, rules_within}
use Rattle.session_rules.specs.Fits.{HasFixtureClosure}
use Rattle.session_rules.specs.Teardown.{SessionState}
use Rattle.session_rules.specs.Teardown as session
use Rattle.session_rules.specs.World.{Phase, Rules}
use Rattle.item_stack.specs.setup_stack.Scopes.{HasScopes}
use Rattle.test_suite.specs.Hooks.{no_hooks}
use Rattle.test_suite.specs.Suites.{item_with_node}
use Rattle.test_suite.specs.declared.item.Item.{Item}

-- the rules of a plan
abbrev pub plan_rules : Plan → Rules python
plan_rules plan = rules_within plan.run.limit plan.run.suite

abbrev pub plan_fixture : Plan → ℕ → FixtureTexts
plan_fixture plan d = fixture_texts plan.run.suite d

-- the object that hooks get for the item of a node
abbrev pub object_noted : ItemObject → session.ItemObject python
object_noted o = record { node = o.node; object = o.object }

-- THE STATE of the session that runs there; the rules aren't looked at
abbrev pub stand_state : Stand → SessionState python
stand_state stand =
    record (item_state (rules_within 0 (record { items = []; fixtures = []; outer = 0; hooks = no_hooks })) stand.world stand.stack) {
      objects = map object_noted stand.objects;
      values = stand.values;
      left = stand.left;
    }

-- nothing is set up, and no item is at hand
pub record IsNewStand (stand : Stand) : Type 0 where
  pub stack : IsNew stand.stack
  pub objects : stand.objects ≡ []
  pub values : stand.values ≡ []
  pub left : stand.left ≡ false

-- an item of a plan, as a session and a report know it; the number of its file isn't looked at on one thread
abbrev pub planned : Plan → Item → SelectedItem
planned plan item = selected_item plan.table 0 item

-- the table is one of the suite: it has the suite's fixtures with their scopes; and its hooks are in hook order
pub record IsPlan (plan : Plan) : Type 0 where
  pub tree : IsTree plan.table.nodes
  pub many : length plan.table.defs ≡ length plan.run.suite.fixtures
  pub scopes : HasScopes (plan_rules plan) plan.table
  pub hooks : (phase : Phase) → InHookOrder (impls_of plan.run.suite.hooks phase)

-- the plan speaks of an item: its node stands in the table, the suite has it there, and its closure fits
pub record IsPlannedItem (plan : Plan) (item : Item) : Type 0 where
  pub node : item.node < length plan.table.nodes
  pub found : item_with_node plan.run.suite item.node ≡ item
  pub fits : HasFixtureClosure (plan_rules plan) (item_in_session plan.table item)

-- the node of an item, where there is one
abbrev pub node_of : Option Item → Option ℕ
node_of None = None
node_of (Some item) = Some item.node
