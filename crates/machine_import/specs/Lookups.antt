-- The paths that imports look for, in characters.
use Rattle.std.specs.Prelude.{◌≡◌, ℕ, List, [], ◌∷◌, ◌++◌, Option, Some, None, codes, encode_utf8_all, is_some, map}
use Rattle.std.specs.List.{flat_map}
use Rattle.py_bind.specs.Modules.{place_of}
use Rattle.py_core.specs.declared.stmt.Core.{Core}
use Rattle.machine_state.specs.py_world.Imports.{path_at, source_paths}
use Rattle.machine_state.specs.py_world.World.{CodedSource}

abbrev pub slashed_part : List ℕ → List ℕ
slashed_part name = codes "/" ++ name

-- a dotted name, with `/` for its dots
abbrev pub slashed_letters : List (List ℕ) → List ℕ
slashed_letters [] = []
slashed_letters (name ∷ names) = name ++ flat_map slashed_part names

abbrev pub path_letters : List ℕ → List (List ℕ) → List ℕ → List ℕ
path_letters folder dotted end = (folder ++ slashed_letters dotted) ++ end

-- the place of a path among those of sources, compared in UTF-8
abbrev pub place_among : List (CodedSource Core) → List ℕ → Option ℕ
place_among xs path = place_of (map encode_utf8_all (source_paths xs)) (encode_utf8_all path)

-- a place among the sources leads to a path
abbrev pub Leads : List (CodedSource Core) → Option ℕ → Option (List ℕ) → Type 0
Leads xs place path = (path_at (source_paths xs) place ≡ path) × (is_some place ≡ is_some path)
