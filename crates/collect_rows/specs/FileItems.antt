-- THE ITEMS OF THE TESTS OF A FILE, each with its row (pytest's reference, "Function": a parametrised test is as many items as it has rows).
use Rattle.std.specs.Prelude.{ℕ, ◌+◌, List, [], ◌∷◌, ◌++◌, Option, Some, None, drop, map, take}
use Rattle.collect_names.specs.Objects.{function_at, object_in}
use Rattle.fixture_definitions.specs.Arguments.{defined_at}
use Rattle.fixture_definitions.specs.declared.found.Definition.{Definition}
use Rattle.fixture_definitions.specs.declared.found.FoundTest.{FoundTest}
use Rattle.fixture_table.specs.Tables.{TableValue}
use Rattle.py_values.specs.declared.object.Obj.{Obj}
use Rattle.py_values.specs.declared.value.Value.{Value}
use Rattle.collection_nodes.specs.py_world.declared.trace.TraceFrame.{TraceFrame}
use Rattle.collect_rows.specs.Rows.{test_rows}
use Rattle.collect_rows.specs.declared.items.FileItems.{FileItems}
use Rattle.collect_rows.specs.declared.items.FileItems.TheVariants.{Items, Fault}
use Rattle.collect_rows.specs.declared.items.FoundItem.{FoundItem}
use Rattle.collect_rows.specs.declared.items.RowsFault.{RowsFault}
use Rattle.collect_rows.specs.declared.row.ItemRow.{ItemRow}
use Rattle.collect_rows.specs.declared.row.TestRows.{TestRows}
use Rattle.collect_rows.specs.declared.row.TestRows.TheVariants as rows

-- the marks of a row stand behind those of the function
abbrev pub marks_with_row : FoundTest → List Value → List Value
marks_with_row t marks = take t.near t.marks ++ (marks ++ drop t.near t.marks)

-- THE ITEM of a test with a row
abbrev pub found_item : FoundTest → ItemRow → FoundItem
found_item t row = record {
  test = t.test;
  place = t.place;
  parent = t.parent;
  marks = marks_with_row t row.marks;
  uses = t.uses;
  arguments = t.arguments;
  row = row;
}

-- before those of the other tests
abbrev pub items_before : List FoundItem → FileItems → FileItems
items_before items (Items others) = Items (items ++ others)
items_before items (Fault fault) = Fault fault

-- a fault in place of the items
abbrev pub or_fault : Option RowsFault → FileItems → FileItems
or_fault None items = items
or_fault (Some fault) items = Fault fault

abbrev pub fault_at : TraceFrame → List ℕ → RowsFault
fault_at defined text = record { trace = defined ∷ []; text = text }

-- a fault is told at the test's `def`; the tests behind it aren't looked at
abbrev pub rows_before : TraceFrame → FoundTest → TestRows → FileItems → FileItems
rows_before defined t (rows.Rows rows) others = items_before (map (found_item t) rows) others
rows_before defined t (rows.Fault text) others = Fault (fault_at defined text)

module _ (heap : List Obj) (table : TableValue) (names : List (List ℕ)) (definitions : List Definition) where
  -- of one test, before those of the others
  abbrev pub test_before : ℕ → FoundTest → FileItems → FileItems
  test_before node t others = rows_before (defined_at (function_at (object_in heap t.test.function))) t (test_rows heap table names definitions node t) others

  -- THE ITEMS of tests whose nodes follow one another, or the first fault
  abbrev pub items_of_tests : ℕ → List FoundTest → FileItems
  items_of_tests node [] = Items []
  items_of_tests node (t ∷ ts) = test_before node t (items_of_tests (node + 1) ts)
