-- WHAT IS READ OF LOADED FILES before rows are made: the tests of each file, with the objects as they are behind all loads, and all that
-- rows and items are made over.
use Rattle.std.specs.Prelude.{ℕ, List, map}
use Rattle.collect_fixtures.specs.Tables.{all_names}
use Rattle.collection_nodes.specs.Tree.{all_folders, outer_nodes}
use Rattle.collection_nodes.specs.declared.placed_file.PlacedFile.{PlacedFile}
use Rattle.collection_nodes.specs.declared.test_file.TestFile.{TestFile}
use Rattle.fixture_definitions.specs.Definitions.{all_definitions}
use Rattle.fixture_definitions.specs.Tests.{all_tests, tests_of}
use Rattle.fixture_definitions.specs.declared.found.Definition.{Definition}
use Rattle.fixture_definitions.specs.declared.found.FoundTest.{FoundTest}
use Rattle.fixture_table.specs.declared.types.CollectionNode.{CollectionNode}
use Rattle.py_values.specs.declared.object.Obj.{Obj}
use Rattle.collect_items.specs.Items.{Findings, FixtureTable, classes_in, findings_of, parent_of_found, placed_of, table_with}
use Rattle.collect_items.specs.declared.found.FoundFile.{FoundFile}
use Rattle.collect_items.specs.declared.reads.FileTests.{FileTests}
use Rattle.collect_items.specs.declared.reads.FilesRead.{FilesRead}
use Rattle.collect_items.specs.declared.reads.ItemBasis.{ItemBasis}

-- a file
abbrev pub file_tests : List Obj → PlacedFile → FileTests
file_tests heap placed = record { placed = placed; classes = classes_in heap placed.file; tests = tests_of heap placed }

-- what rows and items are made over, with the nodes of these tests behind these nodes
abbrev pub basis_of : List CollectionNode → List Definition → List FoundTest → ItemBasis
basis_of outer definitions tests = record { outer = outer; names = all_names definitions tests; definitions = definitions; parents = map parent_of_found tests }

module _ (heap : List Obj) (walk : List (List ℕ)) where
  abbrev pub read_under : List (List ℕ) → List TestFile → List PlacedFile → FilesRead
  read_under folders conftests placed = record {
    basis = basis_of (outer_nodes heap walk folders placed) (all_definitions heap walk folders conftests placed) (all_tests heap placed);
    files = map (file_tests heap) placed;
  }

  -- WHAT IS READ of test files, with the conftests above them
  unfoldable pub files_read : List TestFile → List TestFile → FilesRead
  files_read conftests files = read_under (all_folders walk files) conftests (placed_of heap walk files)

-- the table of the definitions, with a node for each test
abbrev pub table_in : ItemBasis → FixtureTable
table_in b = table_with b.outer b.names b.definitions b.parents

-- what is found in files that came of what was read
abbrev pub findings_in : List Obj → List (List ℕ) → ItemBasis → List FoundFile → Findings
findings_in heap walk b files = findings_of heap walk b.outer b.names b.definitions files
