-- The items and the fixtures of a suite.
use Rattle.std.specs.Prelude.{ℕ, ◌-◌, false, List, [], Option, Some, None, nat_le, slice_get, if◌then◌else◌}
use Rattle.py_values.specs.declared.value.Value.TheVariants as val
use Rattle.py_world.specs.Site.{frame}
use Rattle.session_types.specs.declared.scope.Scope.TheVariants.{Function}
use Rattle.test_suite.specs.declared.fixture.Fixture.{Fixture}
use Rattle.test_suite.specs.declared.item.Item.{Item}
use Rattle.test_suite.specs.declared.item.ItemClosure.TheVariants.{Whole}
use Rattle.test_suite.specs.declared.suite.Suite.{Suite}

-- an item without names
abbrev pub no_item : Item
no_item = record {
  node_id = [];
  title = [];
  file = [];
  name = [];
  id = None;
  test = record { class = None; name = []; function = val.None };
  defined = frame [] 0 [];
  marks = [];
  node = 0;
  arguments = [];
  asked = [];
  bound = [];
  params = [];
  empty = false;
  closure = Whole [];
}

abbrev pub item_or : Option Item → Item
item_or (Some i) = i
item_or None = no_item

-- THE ITEM with a number; any other number names an item without names
abbrev pub numbered_item : List Item → ℕ → Item
numbered_item items number = item_or (slice_get items number)

-- the item with a node: the nodes of items stand last
abbrev pub item_of_node : Suite → ℕ → Option Item
item_of_node suite node = if nat_le suite.outer node then slice_get suite.items (node - suite.outer) else None

-- THE ITEM with a node; any other node names an item without names
abbrev pub item_with_node : Suite → ℕ → Item
item_with_node suite node = item_or (item_of_node suite node)

-- a fixture without name
abbrev pub no_fixture : Fixture
no_fixture = record {
  name = [];
  function = val.None;
  in_class = false;
  arguments = [];
  scope = Function;
  yields = false;
  defined = frame [] 0 [];
}

abbrev pub fixture_or : Option Fixture → Fixture
fixture_or (Some f) = f
fixture_or None = no_fixture

abbrev pub fixture_of_definition : Suite → ℕ → Option Fixture
fixture_of_definition suite d = slice_get suite.fixtures d

-- THE FIXTURE of a definition; any other number names a fixture without name
abbrev pub fixture_at : Suite → ℕ → Fixture
fixture_at suite d = fixture_or (fixture_of_definition suite d)
