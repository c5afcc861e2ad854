-- WHAT IS SHOWN of a collection.
use Rattle.std.specs.Prelude.{◌≡◌, ℕ, ◌+◌, ◌-◌, ◌<◌, Bool, List, [], ◌∷◌, ◌++◌, Option, Some, None, Err, fold, length, map, nat_le, slice_get, if◌then◌else◌}
use Rattle.std.specs.List.{flat_map}
use Rattle.cli_words.specs.declared.options.Options.{Options}
use Rattle.collect_names.specs.declared.found.TestClass.{TestClass}
use Rattle.collect_tree.specs.Collection.{End, collect}
use Rattle.collect_tree.specs.Runnable.{IsRunnable}
use Rattle.collect_tree.specs.Told.{IsWithin, collected_told, collection_end}
use Rattle.collect_tree.specs.collect_items.declared.found.FoundSuite.{FoundSuite}
use Rattle.collect_tree.specs.declared.collected.Collected as found
use Rattle.collect_tree.specs.declared.fault.CollectFault.{CollectFault}
use Rattle.collect_tree.specs.py_load.Reading.{ReadFile}
use Rattle.py_machine.specs.Worlds.{empty}
use Rattle.collection_nodes.specs.Texts.{with_mention, with_mentions}
use Rattle.fixture_definitions.specs.Arguments.{but_request}
use Rattle.fixture_world.specs.Items.{demanding}
use Rattle.hook_order.specs.declared.implementation.Impl.{Impl}
use Rattle.py_values.specs.declared.value.Value.{Value}
use Rattle.run_items.specs.report_rules.Collected.{Whole}
use Rattle.test_session.specs.Stacks.{IsNewStack}
use Rattle.test_session.specs.declared.collected.Collected.{Collected}
use Rattle.test_session.specs.declared.hooks.Hook.{Hook}
use Rattle.test_session.specs.declared.hooks.Hook.TheVariants.{Setup, Call, Teardown, MakeId}
use Rattle.test_session.specs.declared.items.Item.{Item}
use Rattle.test_session.specs.declared.stack.SetupStack.{SetupStack}
use Rattle.test_suite.specs.Suites.{numbered_item}
use Rattle.test_suite.specs.declared.fixture.Fixture.{Fixture}
use Rattle.test_suite.specs.declared.hook.Hook as suite
use Rattle.test_suite.specs.declared.hook.HookTable.{HookTable}
use Rattle.test_suite.specs.declared.item.Item as suite_item
use Rattle.test_suite.specs.declared.suite.Suite.{Suite}

abbrev pub class_object : Option TestClass → Option Value
class_object (Some class) = Some class.object
class_object None = None

-- AN ITEM of a suite, as it is shown
abbrev pub item_shown : suite_item.Item → Item
item_shown i = record {
  node_id = i.node_id;
  title = i.title;
  file = i.file;
  at = demanding i;
  function = i.test.function;
  class = class_object i.test.class;
  arguments = i.arguments;
  closure = i.closure;
  marks = i.marks;
  empty = i.empty;
}

-- the first four are built-in implementations
abbrev pub is_conftests : Impl → Bool
is_conftests which = nat_le 4 which.registered

-- the codes of hooks stand behind those of fixtures
abbrev pub impl_shown : ℕ → Hook → Impl → List (Hook × Impl)
impl_shown count hook which = if is_conftests which then (hook, record which { code = count + which.code }) ∷ [] else []

abbrev pub impls_shown : ℕ → Hook → List Impl → List (Hook × Impl)
impls_shown count hook impls = flat_map (impl_shown count hook) impls

-- THE IMPLEMENTATIONS of hooks in conftests
abbrev pub hooks_shown : ℕ → HookTable → List (Hook × Impl)
hooks_shown count table =
    impls_shown count Setup table.set_up ++ impls_shown count Call table.call ++ impls_shown count Teardown table.teardown ++ impls_shown count MakeId table.ids

abbrev pub fixture_function : Fixture → Value
fixture_function f = f.function

abbrev pub hook_function : suite.Hook → Value
hook_function h = h.function

-- the functions of the codes: those of the fixtures, by the numbers of their definitions, and behind them those of the hooks
abbrev pub codes_of : Suite → List Value
codes_of s = map fixture_function s.fixtures ++ map hook_function s.hooks.hooks

-- the names of a fixture: its own and those that it asks for
abbrev pub with_fixture : List (List ℕ) → Fixture → List (List ℕ)
with_fixture names f = with_mentions (with_mention names f.name) (but_request f.arguments)

-- the names, as the table of the fixtures numbers them
abbrev pub fixture_names : List Fixture → List (List ℕ)
fixture_names fixtures = fold with_fixture [] fixtures

-- the suite of a stack, with its table
abbrev pub suite_in : SetupStack → FoundSuite
suite_in s = record { suite = s.plan.run.suite; table = s.plan.table }

-- what is shown of what was collected: nothing is set up
pub record Shows (f : found.Collected) (c : Collected) : Type 0 where
  pub suite : suite_in c.stack ≡ f.found
  pub items : c.items.items ≡ map (λ n. item_shown (numbered_item f.found.suite.items n)) f.selected
  pub hooks : c.hooks.items ≡ hooks_shown (length f.found.suite.fixtures) f.found.suite.hooks
  pub deselected : c.deselected ≡ f.deselected
  pub errors : c.errors ≡ f.errors
  pub codes : c.stack.codes ≡ codes_of f.found.suite
  pub names : c.stack.names ≡ fixture_names f.found.suite.fixtures
  pub fresh : IsNewStack c.stack

-- A COLLECTION is shown, in its world
pub record ShowsCollection (options : Options) (sources : List ReadFile) (c : Collected) : Type 0 where
  pub found : found.Collected
  pub told : collect options sources ≡ Whole (collected_told found c.world)
  pub within : IsWithin found
  pub shows : Shows found c

-- what a refusal tells; no world is looked at
abbrev pub refused_as : CollectFault → Option End
refused_as fault = collection_end (Err fault) empty

-- THE NUMBER in its suite of an item at a place
abbrev pub number_or : ℕ → Option Item → ℕ
number_or outer (Some i) = i.at.node - outer
number_or outer None = 0

abbrev pub number_at : ℕ → List Item → ℕ → ℕ
number_at outer items place = number_or outer (slice_get items place)

abbrev pub in_suite : ℕ → List Item → List (List ℕ) → List (List ℕ)
in_suite outer items groups = map (map (number_at outer items)) groups

-- what can run: the suite and its table can, nothing is set up, and each item is one of the suite
pub record CanRun (c : Collected) : Type 0 where
  pub runnable : IsRunnable (suite_in c.stack)
  pub fresh : IsNewStack c.stack
  pub items : (place : ℕ) (i : Item) → slice_get c.items.items place ≡ Some i → i.at.node - c.stack.plan.run.suite.outer < length c.stack.plan.run.suite.items
