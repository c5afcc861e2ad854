-- The order in which collection walks through the folders: in each, its files and its folders together, by the bytes of their names.
use Rattle.std.specs.Prelude.{◌↔◌, ℕ, List, [], Option, length, slice_index_or, bytes_eq, Contains}
use Rattle.std.specs.List.Sorted.{IsStrictlySortedBy}
use Rattle.std.specs.declared.cmp.Ordering.{Ordering}
use Rattle.std.specs.Ordering.{nat_cmp}
use Rattle.std.specs.Cmp.Lexicographic.{slice_cmp}
use Rattle.std.specs.List.{range_with_len, position_from}
use Rattle.collect_words.specs.Paths.{parts}

-- paths by their parts, and the parts by their bytes
abbrev pub walk_cmp : List ℕ → List ℕ → Ordering
walk_cmp one other = slice_cmp (slice_cmp nat_cmp) (parts one) (parts other)

-- a tree's paths in the order of the walk, each once
pub record IsWalk (paths walk : List (List ℕ)) : Type 0 where
  pub same : (path : List ℕ) → Contains walk path ↔ Contains paths path
  pub order : IsStrictlySortedBy walk_cmp walk

-- the path at a place of the walk
abbrev pub path_at : List (List ℕ) → ℕ → List ℕ
path_at walk place = slice_index_or walk place []

-- the places of a walk
abbrev pub places : List (List ℕ) → List ℕ
places walk = range_with_len 0 (length walk)

-- the place of the file with a path
abbrev pub place_of : List (List ℕ) → List ℕ → Option ℕ
place_of walk path = position_from (λ file. bytes_eq file path) 0 walk
