-- How a list is grouped by keys, element by element.
use Rattle.std.specs.Prelude.{ℕ, Bool, List, [], ◌∷◌, ◌++◌, length, map, set, get_or, ◌==◌, if◌then◌else◌}
use Rattle.std.specs.List.{filter}
use Rattle.param_rows.specs.Grouping.{firsts}

-- the groups of a list, in order of first appearance
abbrev pub groups_of : {A : Type 0} → (A → A → Bool) → List A → List (List A)
groups_of same xs = map (λ first. filter (λ x. same first x) xs) (firsts same [] xs)

-- groups with one element more: behind those of the group with this number, or in a new group
abbrev pub with_member : {A : Type 0} → ℕ → A → List (List A) → List (List A)
with_member at x groups = if at == length groups then (groups ++ (x ∷ []) ∷ []) else set groups at (get_or groups at [] ++ x ∷ [])
