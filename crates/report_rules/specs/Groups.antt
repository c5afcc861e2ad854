-- The groups of a run with workers (pytest-xdist's documentation, `--dist loadfile`): the selected items of one file each.
use Rattle.std.specs.Prelude.{ℕ, zero, suc, ◌==◌, Bool, not, List, [], ◌∷◌, map}
use Rattle.std.specs.List.{filter}
use Rattle.report_rules.specs.Collected.{SelectedItem}

abbrev pub other_than : ℕ → ℕ → Bool
other_than file f = not (f == file)

abbrev pub is_in : ℕ → SelectedItem → Bool
is_in file c = c.file == file

-- the files of the items, each once, in the order of their first items
abbrev pub files_in : List SelectedItem → List ℕ
files_in [] = []
files_in (c ∷ cs) = c.file ∷ filter (other_than c.file) (files_in cs)

-- the items of a file, in their order
abbrev pub items_of : List SelectedItem → ℕ → List SelectedItem
items_of chosen file = filter (is_in file) chosen

-- for each file its items
abbrev pub groups : List SelectedItem → List (List SelectedItem)
groups chosen = map (items_of chosen) (files_in chosen)

-- the group with a number, and none behind the last
abbrev pub group_at : List (List SelectedItem) → ℕ → List SelectedItem
group_at [] g = []
group_at (group ∷ more) zero = group
group_at (group ∷ more) (suc g) = group_at more g
