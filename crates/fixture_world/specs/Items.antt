-- Test items, as a session and a report see them.
use Rattle.std.specs.Prelude.{ℕ, ◌==◌, List, [], ◌∷◌, Option, Some, None, chars, map, if◌then◌else◌}
use Rattle.fixture_table.specs.Tables.{TableValue}
use Rattle.fixture_table.specs.Tree.{iter_parents}
use Rattle.py_values.specs.declared.value.Value.{Value}
use Rattle.runtest_rules.specs.report_rules.Collected.{ItemTexts, SelectedItem}
use Rattle.session_rules.specs.World as session
use Rattle.fixture_instances.specs.Items.{def_scope_node, parameter_in, requests_in}
use Rattle.fixture_instances.specs.declared.items.BoundValue.{BoundValue}
use Rattle.fixture_instances.specs.declared.items.ItemParam.{ItemParam}
use Rattle.fixture_instances.specs.declared.items.ItemRef.{ItemRef}
use Rattle.test_suite.specs.declared.item.BoundArgument.{BoundArgument}
use Rattle.test_suite.specs.declared.item.FixtureParam.{FixtureParam}
use Rattle.test_suite.specs.declared.item.Item.{Item}
use Rattle.test_suite.specs.declared.item.ItemClosure.{ItemClosure}
use Rattle.test_suite.specs.declared.item.ItemClosure.TheVariants.{Whole, Fault}

-- the closure of an item, where it has no fault
abbrev pub closure_of : ItemClosure → Option (List ℕ)
closure_of (Whole ds) = Some ds
closure_of (Fault text) = None

abbrev pub bound_argument : BoundArgument → BoundValue Value
bound_argument b = record { name = b.number; value = b.value }

abbrev pub item_param : FixtureParam → ItemParam Value
item_param p = record { def = p.def; number = p.number; value = p.value; id = chars p.id }

-- an item as its set-up sees it
abbrev pub demanding : Item → ItemRef Value
demanding i = record { node = i.node; own = None; bound = map bound_argument i.bound; params = map item_param i.params }

-- the id of the parameter that stands there for a definition
abbrev pub id_in : List FixtureParam → ℕ → Option (List ℕ)
id_in [] d = None
id_in (p ∷ ps) d = if d == p.def then Some p.id else id_in ps d

-- WHAT A SESSION KNOWS of an item: the nodes above it, what each definition asks for in it, and where an instance lives for it
abbrev pub item_in_session : TableValue → Item → session.Item
item_in_session table i = record {
  node = i.node;
  chain = iter_parents table.nodes i.node;
  requests = requests_in table (demanding i);
  parameter = parameter_in (demanding i).params;
  place = def_scope_node table (demanding i);
  closure = closure_of i.closure;
  arguments = i.asked;
}

abbrev pub item_texts : Item → ItemTexts
item_texts i = record { node_id = i.node_id; title = i.title; file = i.file }

-- THE ITEM in the file with a number, selected
abbrev pub selected_item : TableValue → ℕ → Item → SelectedItem
selected_item table file i = record { item = item_in_session table i; file = file; texts = item_texts i; ids = id_in i.params }
