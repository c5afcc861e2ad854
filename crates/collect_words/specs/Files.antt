-- The files that words reach, in the order in which they are loaded: conftests first (pytest's reference, "conftest.py files").
use Rattle.std.specs.Prelude.{ℕ, List, [], ◌∷◌, ◌++◌, Bool, ◌&&◌, ◌||◌, not, Option, None, Some, codes, take, bytes_eq, ◌==◌, if◌then◌else◌}
use Rattle.std.specs.Option.{option_to_list}
use Rattle.std.specs.List.{list_any, filter, filter_map, flat_map}
use Rattle.collect_words.specs.Paths.{plain_path, is_test_file, is_below, folder_ends}
use Rattle.collect_words.specs.Walks.{path_at, places, place_of}
use Rattle.collect_words.specs.declared.named.WordTarget.{WordTarget}
use Rattle.collect_words.specs.declared.named.WordTarget.TheVariants.{Folder, File, Node}
use Rattle.collect_words.specs.declared.named.NamedWord.{NamedWord}

abbrev pub includes_number : ℕ → List ℕ → Bool
includes_number number numbers = list_any (λ one. one == number) numbers

-- numbers, and behind them the others of a list, each once at its first place
abbrev pub each_once : List ℕ → List ℕ → List ℕ
each_once taken [] = taken
each_once taken (number ∷ numbers) = if includes_number number taken then each_once taken numbers else each_once (taken ++ number ∷ []) numbers

-- a path to ignore, or below one
abbrev pub is_ignored_by : List ℕ → List ℕ → Bool
is_ignored_by path ignored = bytes_eq ignored path || is_below ignored path

-- `--ignore` leaves out a path with all below it
unfoldable pub is_ignored : List (List ℕ) → List ℕ → Bool
is_ignored ignore path = list_any (λ given. is_ignored_by path (plain_path given)) ignore

abbrev pub is_walked : List (List ℕ) → List ℕ → Bool
is_walked ignore path = is_test_file path && not (is_ignored ignore path)

-- the test files that the walk comes to
unfoldable pub walked : List (List ℕ) → List (List ℕ) → List ℕ
walked walk ignore = filter (λ place. is_walked ignore (path_at walk place)) (places walk)

-- the files that are reached by what a word names: those of a folder that the walk comes to, or the file, whatever its name
abbrev pub files_named : List (List ℕ) → List ℕ → WordTarget → List ℕ
files_named walk tests (Folder path) = filter (λ place. is_below path (path_at walk place)) tests
files_named walk tests (File place) = place ∷ []
files_named walk tests (Node place part) = place ∷ []

-- the test files of the words, in their order; a file that two words reach stands at the first
unfoldable pub test_files : List (List ℕ) → List ℕ → List NamedWord → List ℕ
test_files walk tests words = each_once [] (flat_map (λ word. files_named walk tests word.named) words)

-- the conftest of a folder, which is given with its slash
abbrev pub conftest_in : List (List ℕ) → List ℕ → List ℕ
conftest_in walk folder = option_to_list (place_of walk (folder ++ codes "conftest.py"))

-- the conftests of the folders above a file, from the root down
abbrev pub conftests_above : List (List ℕ) → List ℕ → List ℕ
conftests_above walk path = flat_map (λ end. conftest_in walk (take end path)) (folder_ends path)

-- the conftests above the test files, in the order of these
unfoldable pub conftests : List (List ℕ) → List ℕ → List ℕ
conftests walk files = each_once [] (flat_map (λ place. conftests_above walk (path_at walk place)) files)

-- the file that a word has named, if it did
abbrev pub named_file : WordTarget → Option ℕ
named_file (Folder path) = None
named_file (File place) = Some place
named_file (Node place part) = Some place

-- the files that have words of their own
abbrev pub named_files : List NamedWord → List ℕ
named_files words = filter_map (λ word. named_file word.named) words
