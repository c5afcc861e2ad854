-- What a run asks of a suite and its table.
use Rattle.std.specs.Prelude.{◌≡◌, ℕ, ◌<◌, Some, length, slice_get}
use Rattle.collect_items.specs.declared.found.FoundSuite.{FoundSuite}
use Rattle.fixture_table.specs.Tree.{IsTree}
use Rattle.fixture_world.specs.Items.{item_in_session}
use Rattle.fixture_world.specs.runtest_rules.Rules.{impls_of, rules_within}
use Rattle.conftest_hooks.specs.hook_order.HookOrder.{InHookOrder}
use Rattle.session_rules.specs.Fits.{HasFixtureClosure}
use Rattle.session_rules.specs.World.{Phase}
use Rattle.setup_stack.specs.Scopes.{HasScopes}
use Rattle.test_suite.specs.Suites.{item_with_node}
use Rattle.test_suite.specs.declared.item.Item.{Item}

-- an item of a suite is found by its node, which stands in the table, and its closure fits the rules of the suite
pub record IsAtHome (found : FoundSuite) (i : Item) : Type 0 where
  pub at : item_with_node found.suite i.node ≡ i
  pub node : i.node < length found.table.nodes
  pub fits : (limit : ℕ) → HasFixtureClosure (rules_within limit found.suite) (item_in_session found.table i)

-- the nodes of the table are a tree, its definitions are the fixtures, with their scopes, the hooks are in hook order, and each item is at
-- home
pub record IsRunnable (found : FoundSuite) : Type 0 where
  pub tree : IsTree found.table.nodes
  pub many : length found.table.defs ≡ length found.suite.fixtures
  pub scopes : (limit : ℕ) → HasScopes (rules_within limit found.suite) found.table
  pub hooks : (phase : Phase) → InHookOrder (impls_of found.suite.hooks phase)
  pub items : (n : ℕ) (i : Item) → slice_get found.suite.items n ≡ Some i → IsAtHome found i
