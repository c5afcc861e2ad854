-- Numbers of items, grouped by the places of their files.
use Rattle.std.specs.Prelude.{ℕ, ◌==◌, Bool, not, List, [], ◌∷◌, map, slice_index_or}
use Rattle.std.specs.List.{filter}

-- the place of an item's file; an item behind the last has the first
abbrev pub file_place : List ℕ → ℕ → ℕ
file_place places n = slice_index_or places n 0

abbrev pub is_at_place : List ℕ → ℕ → ℕ → Bool
is_at_place places place n = file_place places n == place

abbrev pub is_elsewhere : List ℕ → ℕ → ℕ → Bool
is_elsewhere places place n = not (is_at_place places place n)

abbrev pub is_other_place : ℕ → ℕ → Bool
is_other_place place p = not (p == place)

-- the places of the files of these, each once, in the order of their first numbers
abbrev pub file_places : List ℕ → List ℕ → List ℕ
file_places places [] = []
file_places places (n ∷ ns) = file_place places n ∷ filter (is_other_place (file_place places n)) (file_places places ns)

abbrev pub numbers_of_file : List ℕ → List ℕ → ℕ → List ℕ
numbers_of_file places ns place = filter (is_at_place places place) ns

-- for each file its numbers
unfoldable pub number_groups : List ℕ → List ℕ → List (List ℕ)
number_groups places ns = map (numbers_of_file places ns) (file_places places ns)
