-- The tests that words name, among those of their files (pytest's how-to guide, "Specifying which tests to run": node ids).
use Rattle.std.specs.Prelude.{ℕ, List, [], ◌++◌, Bool, true, false, ◌||◌, not, Option, None, Some, Result, Ok, Err, map, length, codes, find, bytes_eq, nat_lt, slice_get, if◌then◌else◌}
use Rattle.std.specs.Option.{option_map_or}
use Rattle.std.specs.List.{list_any, filter, flat_map}
use Rattle.collect_words.specs.Files.{each_once, files_named}
use Rattle.collect_words.specs.declared.named.WordTarget.{WordTarget}
use Rattle.collect_words.specs.declared.named.WordTarget.TheVariants.{Folder, File, Node}
use Rattle.collect_words.specs.declared.named.NamedWord.{NamedWord}
use Rattle.collect_words.specs.declared.nodes.FileNodes.{FileNodes}
use Rattle.collect_words.specs.declared.nodes.ItemNames.{ItemNames}
use Rattle.collect_words.specs.declared.fault.WordFault.{WordFault}
use Rattle.collect_words.specs.declared.fault.WordFault.TheVariants.{NotFound, TooManyItems}

abbrev pub class_front : Option (List ℕ) → List ℕ
class_front None = []
class_front (Some class) = class ++ codes "::"

abbrev pub id_end : Option (List ℕ) → List ℕ
id_end None = []
id_end (Some id) = codes "[" ++ (id ++ codes "]")

-- an item's node id behind its file: `CLASS::FUNCTION`, or `FUNCTION` outside classes
abbrev pub plain_part : ItemNames → List ℕ
plain_part item = class_front item.class ++ item.function

-- and with its id: `FUNCTION[ID]`
abbrev pub whole_part : ItemNames → List ℕ
whole_part item = plain_part item ++ id_end item.id

abbrev pub is_class : List ℕ → Option (List ℕ) → Bool
is_class part None = false
is_class part (Some class) = bytes_eq class part

-- an item is named by its node id, with its id or without, and by its class
unfoldable pub is_named : List ℕ → ItemNames → Bool
is_named part item = is_class part item.class || (bytes_eq (plain_part item) part || bytes_eq (whole_part item) part)

-- the items of the file at a place
abbrev pub items_of : List FileNodes → ℕ → List ItemNames
items_of files place = option_map_or (λ file. file.items) (slice_get files place) []

-- the items that are reached by what a word names
abbrev pub items_named : List (List ℕ) → List ℕ → List FileNodes → WordTarget → List ItemNames
items_named walk tests files (Folder path) = flat_map (items_of files) (files_named walk tests (Folder path))
items_named walk tests files (File place) = items_of files place
items_named walk tests files (Node place part) = filter (is_named part) (items_of files place)

abbrev pub item_numbers : List ItemNames → List ℕ
item_numbers items = map (λ item. item.number) items

-- the items of the words, by number, in order of words; one that two words reach stands at the first
unfoldable pub reached : List (List ℕ) → List ℕ → List FileNodes → List NamedWord → List ℕ
reached walk tests files words = each_once [] (flat_map (λ word. item_numbers (items_named walk tests files word.named)) words)

-- a file has what a part names: an item, or a class without items; of a file that failed nothing is known
abbrev pub has_node : List ℕ → FileNodes → Bool
has_node part file = file.failed || (list_any (is_named part) file.items || list_any (λ class. bytes_eq class part) file.classes)

abbrev pub is_found : List FileNodes → WordTarget → Bool
is_found files (Folder path) = true
is_found files (File place) = true
is_found files (Node place part) = option_map_or (has_node part) (slice_get files place) false

-- the first word whose part behind `::` names nothing of its file
unfoldable pub first_missing : List FileNodes → List NamedWord → Option NamedWord
first_missing files words = find (λ word. not (is_found files word.named)) words

abbrev pub or_missing : Option NamedWord → List ℕ → Result (List ℕ) WordFault
or_missing None numbers = Ok numbers
or_missing (Some word) numbers = Err (NotFound word.word)

-- what the words select: first there may be too many items, then a word that names nothing
unfoldable pub selected : ℕ → List (List ℕ) → List ℕ → List FileNodes → List NamedWord → Result (List ℕ) WordFault
selected most walk tests files words =
    let numbers = reached walk tests files words in
    if nat_lt most (length numbers) then Err TooManyItems else or_missing (first_missing files words) numbers
