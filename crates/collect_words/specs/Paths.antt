-- Paths of files and folders below the root, as their bytes; the root is the empty path.
use Rattle.std.specs.Prelude.{ℕ, List, [], ◌∷◌, ◌-◌, Bool, ◌&&◌, ◌||◌, codes, length, take, drop, nat_eq, slice_index, bytes_eq, ◌==◌, if◌then◌else◌}
use Rattle.std.specs.List.{starts_with, ends_with, list_any, slice_split, filter, range_with_len}

abbrev pub is_slash : ℕ → Bool
is_slash b = b == 47

-- the names on a path: of its folders, and of the file
abbrev pub parts : List ℕ → List (List ℕ)
parts path = slice_split is_slash path

-- what stands behind the last slash
abbrev pub name_of : List ℕ → List ℕ
name_of [] = []
name_of (b ∷ rest) = if list_any is_slash (b ∷ rest) then name_of rest else (b ∷ rest)

abbrev pub has_prefix : List ℕ → List ℕ → Bool
has_prefix front text = starts_with nat_eq text front

abbrev pub ends_in : List ℕ → List ℕ → Bool
ends_in end text = ends_with nat_eq text end

-- the files that pytest's `python_files` matches: `test_*.py` and `*_test.py`
unfoldable pub is_test_file : List ℕ → Bool
is_test_file path = ends_in (codes ".py") path && (has_prefix (codes "test_") (name_of path) || ends_in (codes "_test.py") path)

unfoldable pub is_conftest : List ℕ → Bool
is_conftest path = bytes_eq (name_of path) (codes "conftest.py")

-- a path is below a folder: below the root, or a slash stands behind the folder at its front
unfoldable pub is_below : List ℕ → List ℕ → Bool
is_below folder path = (length folder == 0) || (has_prefix folder path && has_prefix (codes "/") (drop (length folder) path))

-- the front dropped once, where it stands there
abbrev pub without_front : List ℕ → List ℕ → List ℕ
without_front front text = if has_prefix front text then drop (length front) text else text

-- the end dropped once, where it stands there
abbrev pub without_end : List ℕ → List ℕ → List ℕ
without_end end text = if ends_in end text then take (length text - length end) text else text

-- a word's path: a leading `./` and a trailing `/` are dropped, each once, and `.` is the root
unfoldable pub plain_path : List ℕ → List ℕ
plain_path word =
    let path = without_end (codes "/") (without_front (codes "./") word) in
    if bytes_eq path (codes ".") then [] else path

-- it leads up: one of its parts is `..`
unfoldable pub leads_up : List ℕ → Bool
leads_up path = list_any (λ part. bytes_eq part (codes "..")) (parts path)

-- a folder ends before a place of a path: the root, or what a slash ends
abbrev pub ends_folder : List ℕ → ℕ → Bool
ends_folder path i = (i == 0) || is_slash (slice_index path (i - 1))

-- how long the fronts of a path are that are its folders, from the root down, each with its slash
unfoldable pub folder_ends : List ℕ → List ℕ
folder_ends path = filter (ends_folder path) (range_with_len 0 (length path))
