-- THE ITEMS of the tests, each with what its row gives and what its set-up demands.
use Rattle.std.specs.Prelude.{ℕ, ◌+◌, List, [], ◌∷◌, Option, Some, None, chars, encode_utf8_all, length, map, if◌then◌else◌}
use Rattle.std.specs.List.{flat_map}
use Rattle.collect_fixtures.specs.Closures.{item_asks, item_closure}
use Rattle.collect_fixtures.specs.Tables.{all_names, table_of}
use Rattle.collect_names.specs.Ids.{item_id, item_name, item_title}
use Rattle.collect_names.specs.Objects.{object_in, function_at}
use Rattle.collect_rows.specs.FileItems.{items_of_tests}
use Rattle.collect_rows.specs.declared.items.FileItems.{FileItems}
use Rattle.collect_rows.specs.declared.items.FileItems.TheVariants as file
use Rattle.collect_rows.specs.declared.items.FoundItem.{FoundItem}
use Rattle.collect_rows.specs.declared.items.RowsFault.{RowsFault}
use Rattle.collect_rows.specs.declared.row.ItemRow.{ItemRow}
use Rattle.collect_words.specs.Walks.{path_at}
use Rattle.collection_nodes.specs.Tree.{all_folders, classes_of, outer_nodes, placed_files}
use Rattle.collection_nodes.specs.declared.placed_file.PlacedFile.{PlacedFile}
use Rattle.collection_nodes.specs.declared.test_file.TestFile.{TestFile}
use Rattle.fixture_definitions.specs.Arguments.{defined_at}
use Rattle.fixture_definitions.specs.Definitions.{all_definitions}
use Rattle.fixture_definitions.specs.Tests.{all_tests, tests_of}
use Rattle.fixture_definitions.specs.declared.found.Definition.{Definition}
use Rattle.fixture_definitions.specs.declared.found.FoundTest.{FoundTest}
use Rattle.fixture_table.specs.Tables.{TableValue}
use Rattle.fixture_table.specs.declared.types.CollectionNode.{CollectionNode}
use Rattle.py_values.specs.declared.object.Obj.{Obj}
use Rattle.test_suite.specs.Hooks.{no_hooks}
use Rattle.test_suite.specs.declared.fixture.Fixture.{Fixture}
use Rattle.test_suite.specs.declared.item.BoundArgument.{BoundArgument}
use Rattle.test_suite.specs.declared.item.Item.{Item}
use Rattle.test_suite.specs.declared.suite.Suite.{Suite}
use Rattle.fixture_definitions.specs.collect_params.param_rows.declared.keys.ItemKeys.{ItemKeys}
use Rattle.collect_items.specs.Chosen.{item_keys}
use Rattle.collect_items.specs.declared.found.FoundFile.{FoundFile}
use Rattle.collect_items.specs.declared.found.FoundSuite.{FoundSuite}

-- the fixtures of a collection: the table of their definitions, and the texts of the names in it
pub record FixtureTable : Type 0 where
  pub table : TableValue
  pub names : List (List ℕ)
  pub definitions : List Definition

abbrev pub fixtures_with : TableValue → List (List ℕ) → List Definition → FixtureTable
fixtures_with table names definitions = record { table = table; names = names; definitions = definitions }

abbrev pub bound_number : BoundArgument → ℕ
bound_number b = b.number

-- the names that a row binds, by number
abbrev pub row_binds : ItemRow → List ℕ
row_binds row = map bound_number row.bound

-- what an item's arguments stand for: what stands for an empty list gives no argument a value
abbrev pub row_asks : FixtureTable → ℕ → ItemRow → List (List ℕ) → List (Option ℕ)
row_asks f node row arguments = item_asks f.table f.names node (if row.empty then [] else row_binds row) arguments

module _ (heap : List Obj) (walk : List (List ℕ)) where
  -- the item of a test's row with a node
  abbrev pub item : FixtureTable → ℕ → FoundItem → Item
  item f node i = record {
    node_id = encode_utf8_all (item_id (chars (path_at walk i.place)) i.test i.row.id);
    title = encode_utf8_all (item_title i.test i.row.id);
    file = path_at walk i.place;
    name = item_name i.test i.row.id;
    id = i.row.id;
    test = i.test;
    defined = defined_at (function_at (object_in heap i.test.function));
    marks = i.marks;
    node = node;
    arguments = i.arguments;
    asked = row_asks f node i.row i.arguments;
    bound = i.row.bound;
    params = i.row.params;
    empty = i.row.empty;
    closure = item_closure f.table f.names f.definitions node (row_binds i.row) i.uses i.arguments;
  }

  -- items whose nodes follow one another
  abbrev pub items_from : FixtureTable → ℕ → List FoundItem → List Item
  items_from f node [] = []
  items_from f node (i ∷ is) = item f node i ∷ items_from f (node + 1) is

abbrev pub parent_of_item : FoundItem → ℕ
parent_of_item i = i.parent

abbrev pub parent_of_found : FoundTest → ℕ
parent_of_found t = t.parent

-- the table of the definitions that were found, with the nodes of items with these parents behind these nodes
abbrev pub table_with : List CollectionNode → List (List ℕ) → List Definition → List ℕ → FixtureTable
table_with outer names definitions parents = fixtures_with (table_of outer names definitions parents) names definitions

abbrev pub defined_fixture : Definition → Fixture
defined_fixture d = d.fixture

-- the suite of the items that were found: their nodes stand behind so many others
abbrev pub suite_with : List Obj → List (List ℕ) → ℕ → FixtureTable → List FoundItem → Suite
suite_with heap walk outer f items = record { items = items_from heap walk f outer items; fixtures = map defined_fixture f.definitions; outer = outer; hooks = no_hooks }

-- the classes of tests of a file, as words name them
abbrev pub classes_in : List Obj → TestFile → List (List ℕ)
classes_in heap file = map encode_utf8_all (classes_of heap file)

-- a file whose rows have a fault has no items
abbrev pub items_kept : FileItems → List FoundItem
items_kept (file.Items items) = items
items_kept (file.Fault fault) = []

abbrev pub items_of_file : FoundFile → List FoundItem
items_of_file f = items_kept f.items

abbrev pub all_items : List FoundFile → List FoundItem
all_items files = flat_map items_of_file files

abbrev pub fault_kept : FileItems → Option RowsFault
fault_kept (file.Items items) = None
fault_kept (file.Fault fault) = Some fault

abbrev pub fault_of_file : FoundFile → Option RowsFault
fault_of_file f = fault_kept f.items

-- what was found in the test files: the suite, what came of each file, and what the order of each item goes by
pub record Findings : Type 0 where
  pub suite : FoundSuite
  pub files : List FoundFile
  pub keys : List ItemKeys

module _ (heap : List Obj) where
  -- what comes of the tests of a file: their nodes follow one another from this one on
  abbrev pub file_found : FixtureTable → ℕ → PlacedFile → FoundFile
  file_found f node placed = record {
    file = placed.file;
    classes = classes_in heap placed.file;
    items = items_of_tests heap f.table f.names f.definitions node (tests_of heap placed);
  }

  abbrev pub files_found : FixtureTable → ℕ → List PlacedFile → List FoundFile
  files_found f node [] = []
  files_found f node (placed ∷ rest) = file_found f node placed ∷ files_found f (node + length (tests_of heap placed)) rest

  -- what comes of the tests of the files, where each test has a node
  unfoldable pub files_behind : List CollectionNode → List (List ℕ) → List Definition → List FoundTest → List PlacedFile → List FoundFile
  files_behind outer names definitions tests placed = files_found (table_with outer names definitions (map parent_of_found tests)) (length outer) placed

module _ (heap : List Obj) (walk : List (List ℕ)) where
  abbrev pub suite_over : ℕ → List FoundItem → FixtureTable → FoundSuite
  suite_over outer items f = record { suite = suite_with heap walk outer f items; table = f.table }

  -- the suite of these items, behind these nodes
  unfoldable pub suite_behind : List CollectionNode → List (List ℕ) → List Definition → List FoundItem → FoundSuite
  suite_behind outer names definitions items = suite_over (length outer) items (table_with outer names definitions (map parent_of_item items))

  abbrev pub findings_of : List CollectionNode → List (List ℕ) → List Definition → List FoundFile → Findings
  findings_of outer names definitions files = record {
    suite = suite_behind outer names definitions (all_items files);
    files = files;
    keys = map (item_keys definitions) (all_items files);
  }

  abbrev pub findings_named : List CollectionNode → List (List ℕ) → List Definition → List FoundTest → List PlacedFile → Findings
  findings_named outer names definitions tests placed = findings_of outer names definitions (files_behind heap outer names definitions tests placed)

  abbrev pub findings_behind : List CollectionNode → List Definition → List FoundTest → List PlacedFile → Findings
  findings_behind outer definitions tests placed = findings_named outer (all_names definitions tests) definitions tests placed

  abbrev pub findings_under : List (List ℕ) → List TestFile → List PlacedFile → Findings
  findings_under folders conftests placed =
      findings_behind (outer_nodes heap walk folders placed) (all_definitions heap walk folders conftests placed) (all_tests heap placed) placed

  -- the test files at their nodes
  abbrev pub placed_of : List TestFile → List PlacedFile
  placed_of files = placed_files heap (all_folders walk files) files

  -- WHAT IS FOUND in loaded test files, with the conftests above them
  unfoldable pub findings : List TestFile → List TestFile → Findings
  findings conftests files = findings_under (all_folders walk files) conftests (placed_of files)
