-- What one implementation of a hook does, for an item of a plan.
use Rattle.std.specs.Prelude.{Option}
use Rattle.fixture_world.specs.Items.{item_in_session}
use Rattle.fixture_world.specs.runtest_rules.Language.{python}
use Rattle.fixture_world.specs.runtest_rules.Rules.{body_outcome, implemented_for}
use Rattle.fixture_world.specs.fixture_calls.Hooks.{hook_begun}
use Rattle.hook_order.specs.declared.implementation.Impl.{Impl}
use Rattle.hook_phases.specs.Steps.{item_where}
use Rattle.py_values.specs.declared.value.Value.{Value}
use Rattle.run_items.specs.declared.plan.Plan.{Plan}
use Rattle.fixture_world.specs.fixture_calls.declared.failure.Failure.{Failure}
use Rattle.session_rules.specs.Hooks.{HookAnswer}
use Rattle.session_rules.specs.Session.{hook_arguments, node_of}
use Rattle.session_rules.specs.Teardown.{SessionState}
use Rattle.session_rules.specs.World.{BodyOutcome, HookArguments, WorldAnswer}
use Rattle.test_suite.specs.Hooks.{hook_at}
use Rattle.test_suite.specs.Suites.{item_with_node}
use Rattle.test_suite.specs.declared.item.Item.{Item}

module _ (plan : Plan) (item : Item) (next : Option Item) (which : Impl) (s : SessionState python) where
  -- the objects that it may take
  abbrev pub arguments_at : HookArguments python
  arguments_at = hook_arguments (item_in_session plan.table item) (node_of (item_where (item_in_session plan.table) next)) s

  abbrev pub implemented_at : WorldAnswer python (HookAnswer Value Failure)
  implemented_at = implemented_for plan.run.limit plan.run.suite.hooks (item_with_node plan.run.suite item.node) arguments_at which s.world

  abbrev pub opened_at : BodyOutcome python
  opened_at = body_outcome (hook_begun plan.run.limit (hook_at plan.run.suite.hooks which.code) arguments_at.item arguments_at.next s.world)
