-- What words can name of each file.
use Rattle.std.specs.Prelude.{ℕ, ◌+◌, ◌||◌, false, List, [], ◌∷◌, encode_utf8_all, is_some, length, map, not, option_map, replicate, slice_set}
use Rattle.collect_names.specs.declared.found.TestClass.{TestClass}
use Rattle.collect_rows.specs.declared.items.FoundItem.{FoundItem}
use Rattle.collect_words.specs.declared.nodes.FileNodes.{FileNodes}
use Rattle.collect_words.specs.declared.nodes.ItemNames.{ItemNames}
use Rattle.collect_items.specs.Items.{all_items, fault_of_file, items_of_file}
use Rattle.collect_items.specs.declared.found.FoundFile.{FoundFile}

-- the place of the file of each item
abbrev pub place_of_item : FoundItem → ℕ
place_of_item i = i.place

abbrev pub class_name : TestClass → List ℕ
class_name c = encode_utf8_all c.name

-- the names of an item, behind so many others
abbrev pub names_of : ℕ → FoundItem → ItemNames
names_of number i = record {
  number = number;
  class = option_map class_name i.test.class;
  function = encode_utf8_all i.test.name;
  id = option_map encode_utf8_all i.row.id;
}

abbrev pub numbered : ℕ → List FoundItem → List ItemNames
numbered number [] = []
numbered number (i ∷ is) = names_of number i ∷ numbered (number + 1) is

-- what words can name of a file, whose items are numbered from this one on. Of one that failed, by its load or its rows, nothing is known
abbrev pub nodes_of : ℕ → FoundFile → FileNodes
nodes_of first f = record {
  failed = not (is_some f.file.object) || is_some (fault_of_file f);
  classes = f.classes;
  items = numbered first (items_of_file f);
}

-- the files with their nodes, numbered one behind the other
abbrev pub all_nodes : ℕ → List FoundFile → List (ℕ × FileNodes)
all_nodes first [] = []
all_nodes first (f ∷ rest) = (f.file.place, nodes_of first f) ∷ all_nodes (first + length (items_of_file f)) rest

-- a file that is no test file
abbrev pub no_nodes : FileNodes
no_nodes = record { failed = false; classes = []; items = [] }

-- files with their nodes, each at its place among the others
abbrev pub with_nodes : List (ℕ × FileNodes) → List FileNodes → List FileNodes
with_nodes [] nodes = nodes
with_nodes (file ∷ files) nodes = slice_set (with_nodes files nodes) file.0 file.1

-- THE NODES OF ALL FILES, in the order of the walk: files that were not loaded have none
unfoldable pub nodes_by_place : List (List ℕ) → List FoundFile → List FileNodes
nodes_by_place walk files = with_nodes (all_nodes 0 files) (replicate (length walk) no_nodes)

-- THE PLACES of the files of all items
unfoldable pub item_places : List FoundFile → List ℕ
item_places files = map place_of_item (all_items files)
