use Rattle.std.specs.Prelude.{unwrap_or, ◌≡◌, ◌≢◌, ℕ, ◌+◌, ◌-◌, List, [], ◌∷◌, Bool, not, ◌&&◌, ◌||◌, ◌==◌, Option, None, Some, IsSome, IsTrue, map, length, take, nat_eq, nat_lt, codes, bytes_eq, All, Contains, String, string_bytes, if◌then◌else◌}
use Rattle.std.specs.List.{starts_with, ends_with, list_any, slice_split, AllPairs}
use Rattle.std.specs.List.Sorted.{IsStrictlySortedBy}
use Rattle.std.specs.Map.{lookup}
use Rattle.std.specs.Ordering.{nat_cmp}
use Rattle.std.specs.Cmp.Lexicographic.{slice_cmp}
use Rattle.std.specs.declared.vec.Vec.{Vec}
use Rattle.std.proofs.Common.{Global}

-- a file: its path and its bytes
abbrev pub File : Type 0
File = List ℕ × List ℕ

-- a list of files as code holds it
abbrev pub file_of : String Global × Vec ℕ Global → File
file_of pair = (string_bytes pair.0, pair.1.items)

abbrev pub files_of : List (String Global × Vec ℕ Global) → List File
files_of pairs = map file_of pairs

abbrev pub paths_of : List File → List (List ℕ)
paths_of files = map (λ file. file.0) files

-- a list of files is read as a map: the first file with a path counts
abbrev pub file_at : List ℕ → List File → Option (List ℕ)
file_at path files = lookup (bytes_eq path) files

-- the paths that a tree lists: those of its files, each once
pub record ListsPaths (files : List File) (paths : List (List ℕ)) : Type 0 where
  pub each : All (λ path. IsSome (file_at path files)) paths
  pub all : (path : List ℕ) → IsSome (file_at path files) → Contains paths path
  pub once : AllPairs (λ path other. path ≢ other) paths

-- the folders on a path: its parts without the last
unfoldable pub folders_of : List ℕ → List (List ℕ)
folders_of path = let parts = slice_split (λ b. b == 47) path in take (length parts - 1) parts

-- the names of folders that hold no tests of a project's own
abbrev pub skipped_names : List (List ℕ)
skipped_names = codes "_darcs" ∷ codes "build" ∷ codes "CVS" ∷ codes "dist" ∷ codes "node_modules" ∷ codes "venv" ∷ codes "__pycache__" ∷ codes "{arch}" ∷ []

unfoldable pub is_skipped_folder : List ℕ → Bool
is_skipped_folder name = starts_with nat_eq name (codes ".") || (ends_with nat_eq name (codes ".egg") || list_any (λ skipped. bytes_eq name skipped) skipped_names)

-- a Python file below no folder that is passed over
unfoldable pub is_kept : List ℕ → Bool
is_kept path = ends_with nat_eq path (codes ".py") && not (list_any is_skipped_folder (folders_of path))

-- paths in the order of their bytes, each once
abbrev pub InOrder : List (List ℕ) → Type 0
InOrder paths = IsStrictlySortedBy (slice_cmp nat_cmp) paths

-- the kept files of a tree, in the order of the paths' bytes
pub record IsKept (tree files : List File) : Type 0 where
  pub each : All (λ file. IsTrue (is_kept file.0) × (file_at file.0 tree ≡ Some file.1)) files
  pub all : (path : List ℕ) → IsSome (file_at path tree) → IsTrue (is_kept path) → Contains (paths_of files) path
  pub order : InOrder (paths_of files)

-- the paths of a tree's kept files, in order
pub record ListsKept (tree : List File) (paths : List (List ℕ)) : Type 0 where
  pub kept : All (λ path. IsTrue (is_kept path)) paths
  pub each : All (λ path. IsSome (file_at path tree)) paths
  pub all : (path : List ℕ) → IsSome (file_at path tree) → IsTrue (is_kept path) → Contains paths path
  pub order : InOrder paths

-- the limits of a tree: 4,096 kept files, 1 MiB a file, 8 MiB in all
abbrev pub files_most : ℕ
files_most = 4096

abbrev pub file_most : ℕ
file_most = 1048576

abbrev pub tree_most : ℕ
tree_most = 8388608

-- a limit that a tree passes
pub data TreeLimit : Type 0 where
  ManyFiles : TreeLimit
  LargeFile : List ℕ → TreeLimit
  LargeTree : TreeLimit

-- the limit that a file passes: its own size, or the size of all files up to it
abbrev pub limit_at : ℕ → File → Option TreeLimit
limit_at before file =
    if nat_lt file_most (length file.1) then Some (LargeFile file.0)
    else (if nat_lt tree_most (before + length file.1) then Some LargeTree else None)

-- the first of two limits
abbrev pub sooner : Option TreeLimit → Option TreeLimit → Option TreeLimit
sooner (Some limit) later = Some limit
sooner None later = later

-- the first size, in the order of the files, that passes a limit
abbrev pub size_limit : ℕ → List File → Option TreeLimit
size_limit before [] = None
size_limit before (file ∷ files) = sooner (limit_at before file) (size_limit (before + length file.1) files)

-- the first limit that the kept files pass
unfoldable pub tree_limit : List File → Option TreeLimit
tree_limit files = if nat_lt files_most (length files) then Some ManyFiles else size_limit 0 files

-- a tree's files at some paths
abbrev pub with_bytes : List File → List (List ℕ) → List File
with_bytes tree paths = map (λ path. (path, unwrap_or (file_at path tree) [])) paths
