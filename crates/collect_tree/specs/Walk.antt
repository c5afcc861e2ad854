-- The walk of paths as a function: each path is put in its place.
use Rattle.std.specs.Prelude.{ℕ, List, [], ◌∷◌}
use Rattle.std.specs.declared.cmp.Ordering.{Ordering}
use Rattle.std.specs.declared.cmp.Ordering.TheVariants.{Less, Equal, Greater}
use Rattle.collect_words.specs.Walks.{walk_cmp}

-- a path before another one, the same as it, or somewhere behind it
abbrev pub insert_path_by : Ordering → List ℕ → List ℕ → List (List ℕ) → List (List ℕ) → List (List ℕ)
insert_path_by Less path other rest behind = path ∷ other ∷ rest
insert_path_by Equal path other rest behind = other ∷ rest
insert_path_by Greater path other rest behind = other ∷ behind

-- a path among paths in the order of the walk
abbrev pub insert_path : List ℕ → List (List ℕ) → List (List ℕ)
insert_path path [] = path ∷ []
insert_path path (other ∷ rest) = insert_path_by (walk_cmp path other) path other rest (insert_path path rest)

-- THE WALK of paths, each once
unfoldable pub walk_of : List (List ℕ) → List (List ℕ)
walk_of [] = []
walk_of (path ∷ paths) = insert_path path (walk_of paths)
