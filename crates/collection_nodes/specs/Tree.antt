-- THE TREE OF COLLECTION (pytest's reference, "Collection tree objects"): the root, the folders above the test files, the test files, and
-- their classes of tests. Behind these stand the tests.
use Rattle.std.specs.Prelude.{ℕ, ◌+◌, ◌==◌, Bool, List, [], ◌∷◌, ◌++◌, Option, Some, None, chars, fold, length, map, replicate, slice_index, take, if◌then◌else◌}
use Rattle.std.specs.List.{filter, flat_map, list_any, range_with_len}
use Rattle.collect_names.specs.Found.{class_nodes}
use Rattle.collect_names.specs.Objects.{object_in}
use Rattle.collect_words.specs.Walks.{path_at}
use Rattle.fixture_table.specs.declared.types.CollectionNode.{CollectionNode}
use Rattle.fixture_table.specs.declared.types.NodeKind.{NodeKind}
use Rattle.fixture_table.specs.declared.types.NodeKind.TheVariants as kind
use Rattle.py_values.specs.declared.object.Obj.{Obj}
use Rattle.py_values.specs.declared.value.Value.{Value}
use Rattle.py_world.specs.Names.{names_in}
use Rattle.collection_nodes.specs.Texts.{number_among, with_mentions}
use Rattle.collection_nodes.specs.declared.placed_file.PlacedFile.{PlacedFile}
use Rattle.collection_nodes.specs.declared.test_file.TestFile.{TestFile}

-- FOLDERS

abbrev pub is_parting : ℕ → Bool
is_parting letter = letter == 47

-- a slash stands at this place of a path
abbrev pub parts_at : List ℕ → ℕ → Bool
parts_at path at = is_parting (slice_index path at)

-- the folders above a file, outer ones first, without the root
abbrev pub folders_above : List ℕ → List (List ℕ)
folders_above path = map (λ end. take end path) (filter (parts_at path) (range_with_len 0 (length path)))

-- the folder in which a file or a folder stands: what is before the last slash; the root is the empty path
abbrev pub outer_folder : List ℕ → List ℕ
outer_folder [] = []
outer_folder (letter ∷ rest) = if list_any is_parting rest then letter ∷ outer_folder rest else []

abbrev pub with_folders : List (List ℕ) → List ℕ → List (List ℕ)
with_folders folders path = with_mentions folders (folders_above path)

abbrev pub file_path : List (List ℕ) → TestFile → List ℕ
file_path walk file = chars (path_at walk file.place)

-- THE FOLDERS: the root, and those above the files, each once
unfoldable pub all_folders : List (List ℕ) → List TestFile → List (List ℕ)
all_folders walk files = fold with_folders ([] ∷ []) (map (file_path walk) files)

-- a folder has its number as node: the root is node 0
abbrev pub folder_node : List (List ℕ) → List ℕ → ℕ
folder_node folders folder = number_among folders folder

-- FILES AND THEIR CLASSES OF TESTS

abbrev pub names_of_module : List Obj → Option Value → List (List ℕ × Value)
names_of_module heap (Some v) = names_in (object_in heap v)
names_of_module heap None = []

-- the names of a file's module; a file that has none has no names
abbrev pub names_of_file : List Obj → TestFile → List (List ℕ × Value)
names_of_file heap file = names_of_module heap file.object

-- its classes of tests, by name, each once
abbrev pub classes_of : List Obj → TestFile → List (List ℕ)
classes_of heap file = with_mentions [] (class_nodes heap (names_of_file heap file))

-- files whose nodes follow one another, and whose classes do
abbrev pub files_placed : List Obj → ℕ → ℕ → List TestFile → List PlacedFile
files_placed heap node first [] = []
files_placed heap node first (file ∷ files) =
    record { file = file; node = node; first = first } ∷ files_placed heap (node + 1) (first + length (classes_of heap file)) files

-- THE FILES AND CLASSES WITH THEIR NODES: the files stand behind the folders, and all classes behind the files
unfoldable pub placed_files : List Obj → List (List ℕ) → List TestFile → List PlacedFile
placed_files heap folders files = files_placed heap (length folders) (length folders + length files) files

-- the node of a class of a file, by its name
abbrev pub class_node : List Obj → PlacedFile → List ℕ → ℕ
class_node heap placed name = placed.first + number_among (classes_of heap placed.file) name

-- NODES

abbrev pub tree_node : NodeKind → ℕ → CollectionNode
tree_node kind parent = record { kind = kind; parent = parent }

abbrev pub folder_kind : List ℕ → NodeKind
folder_kind [] = kind.Session
folder_kind (letter ∷ rest) = kind.Directory

abbrev pub node_of_folder : List (List ℕ) → List ℕ → CollectionNode
node_of_folder folders folder = tree_node (folder_kind folder) (folder_node folders (outer_folder folder))

abbrev pub node_of_file : List (List ℕ) → List (List ℕ) → PlacedFile → CollectionNode
node_of_file walk folders placed = tree_node kind.File (folder_node folders (outer_folder (file_path walk placed.file)))

abbrev pub nodes_of_classes : List Obj → PlacedFile → List CollectionNode
nodes_of_classes heap placed = replicate (length (classes_of heap placed.file)) (tree_node kind.Class placed.node)

-- THE NODES IN FRONT OF THOSE OF THE TESTS
unfoldable pub outer_nodes : List Obj → List (List ℕ) → List (List ℕ) → List PlacedFile → List CollectionNode
outer_nodes heap walk folders placed =
    map (node_of_folder folders) folders ++ (map (node_of_file walk folders) placed ++ flat_map (nodes_of_classes heap) placed)
