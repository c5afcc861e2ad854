-- THE ITEMS OF FILES, where the hook that makes ids is asked for them when all files are loaded: file by file and test by test. The first fault
-- of a file's tests is its error, with what the hook printed for it; its further tests aren't looked at. In a file the implementations whose
-- folders it stands in are asked.
use Rattle.std.specs.Prelude.{ℕ, ◌+◌, Bool, false, List, [], ◌∷◌, Option, Some, None, Ok, Err, length, map, nat_eq}
use Rattle.std.specs.List.{filter, starts_with}
use Rattle.std.specs.Str.Lossy.{utf8_lossy}
use Rattle.collect_items.specs.Items.{FixtureTable}
use Rattle.collect_items.specs.Reads.{table_in}
use Rattle.collect_items.specs.declared.found.FoundFile.{FoundFile}
use Rattle.collect_items.specs.declared.reads.FileTests.{FileTests}
use Rattle.collect_items.specs.declared.reads.FilesRead.{FilesRead}
use Rattle.collect_rows.specs.FileItems.{found_item, items_before}
use Rattle.collect_rows.specs.declared.items.FileItems.{FileItems}
use Rattle.collect_rows.specs.declared.items.FileItems.TheVariants as file
use Rattle.collect_rows.specs.declared.items.FoundItem.{FoundItem}
use Rattle.collect_rows.specs.declared.row.TestRows.{TestRows}
use Rattle.collect_rows.specs.declared.row.TestRows.TheVariants as rows
use Rattle.collect_words.specs.Walks.{path_at}
use Rattle.fixture_definitions.specs.declared.found.FoundTest.{FoundTest}
use Rattle.hook_order.specs.declared.implementation.Impl.{Impl}
use Rattle.py_world.specs.World.{world_with_printed}
use Rattle.test_suite.specs.Hooks.{hook_with_code}
use Rattle.test_suite.specs.declared.hook.Hook.{Hook}
use Rattle.test_suite.specs.declared.hook.HookTable.{HookTable}
use Rattle.runtest_rules.specs.tracebacks.source_meaning.Meaning.{SourceWorld}
use Rattle.collect_ids.specs.Asking.{Asked, fault_of_test, rows_asked}
use Rattle.collect_ids.specs.declared.files.AskedFile.{AskedFile}

abbrev pub FileAsked : Type 0
FileAsked = FileItems × SourceWorld

abbrev pub before_others : List FoundItem → FileAsked → FileAsked
before_others items x = (items_before items x.0, x.1)

-- the rows of a test, before the items of the tests behind it
abbrev pub items_behind : FoundTest → Asked TestRows → (SourceWorld → FileAsked) → FileAsked
items_behind t (Ok (rows.Rows rs), w) others = before_others (map (found_item t) rs) (others w)
items_behind t (Ok (rows.Fault text), w) others = (file.Fault (fault_of_test t text w), w)
items_behind t (Err fault, w) others = (file.Fault fault, w)

-- an implementation serves the files of its conftest's folder, and of those below
abbrev pub folder_has : List ℕ → Option Hook → Bool
folder_has path None = false
folder_has path (Some h) = starts_with nat_eq path h.folder

abbrev pub serves_file : HookTable → List ℕ → Impl → Bool
serves_file hooks path which = folder_has path (hook_with_code hooks which.code)

abbrev pub serving_file : HookTable → List Impl → List ℕ → List Impl
serving_file hooks impls path = filter (serves_file hooks path) impls

-- a file with its items
abbrev pub found_of : FileTests → FileItems → FoundFile
found_of f items = record { file = f.placed.file; classes = f.classes; items = items }

-- and what the hook printed for it; behind it nothing is printed in the world
abbrev pub file_with_printed : FileTests → FileAsked → AskedFile × SourceWorld
file_with_printed f x = (record { found = found_of f x.0; printed = utf8_lossy x.1.printed }, world_with_printed [] x.1)

abbrev pub file_before : AskedFile × SourceWorld → (SourceWorld → List AskedFile × SourceWorld) → List AskedFile × SourceWorld
file_before x others = let rest = others x.1 in (x.0 ∷ rest.0, rest.1)

module _ (limit : ℕ) (hooks : HookTable) (f : FixtureTable) where
  -- of tests whose nodes follow one another, by these implementations
  abbrev pub tests_asked : List Impl → ℕ → List FoundTest → SourceWorld → FileAsked
  tests_asked impls node [] w = (file.Items [], w)
  tests_asked impls node (t ∷ ts) w = items_behind t (rows_asked limit hooks impls f.table f.names f.definitions node t w) (tests_asked impls (node + 1) ts)

  module _ (impls : List Impl) (walk : List (List ℕ)) where
    abbrev pub file_asked : ℕ → FileTests → SourceWorld → AskedFile × SourceWorld
    file_asked node file w = file_with_printed file (tests_asked (serving_file hooks impls (path_at walk file.placed.file.place)) node file.tests w)

    -- one after another
    abbrev pub all_asked : ℕ → List FileTests → SourceWorld → List AskedFile × SourceWorld
    all_asked node [] w = ([], w)
    all_asked node (file ∷ others) w = file_before (file_asked node file w) (all_asked (node + length file.tests) others)

-- THE FILES that were read, each test at its node
unfoldable pub files_asked : ℕ → HookTable → List (List ℕ) → FilesRead → SourceWorld → List AskedFile × SourceWorld
files_asked limit hooks walk read w = all_asked limit hooks (table_in read.basis) hooks.ids walk (length read.basis.outer) read.files w
