-- The file that an import names (Language Reference, the import system; the two places that are searched are own).
use Rattle.std.specs.Prelude.{◌≡◌, ℕ, suc, ◌<◌, ◌==◌, List, [], ◌∷◌, ◌++◌, codes, encode_utf8_all, bytes_eq, slice_get, Option, Some, None, option_map, if◌then◌else◌}
use Rattle.std.specs.List.{list_any, flat_map}
use Rattle.std.specs.Option.{option_or}

-- the folder of a file, with the `/` behind it; nothing for a file in the root
abbrev pub folder_of : List ℕ → List ℕ
folder_of [] = []
folder_of (c ∷ path) = if list_any (λ d. d == 47) (c ∷ path) then c ∷ folder_of path else []

abbrev pub path_part : List ℕ → List ℕ
path_part name = codes "/" ++ encode_utf8_all name

-- a dotted name, with `/` for its dots
abbrev pub slashed : List (List ℕ) → List ℕ
slashed [] = []
slashed (name ∷ names) = encode_utf8_all name ++ flat_map path_part names

abbrev pub module_path : List ℕ → List (List ℕ) → List ℕ → List ℕ
module_path folder dotted end = folder ++ (slashed dotted ++ end)

-- THE PATHS THAT AN IMPORT LOOKS FOR, in order: the package and the module, in the importing file's folder and in the root
abbrev pub candidates : List ℕ → List (List ℕ) → List (List ℕ)
candidates importer dotted =
    module_path (folder_of importer) dotted (codes "/__init__.py")
    ∷ module_path (folder_of importer) dotted (codes ".py")
    ∷ module_path [] dotted (codes "/__init__.py")
    ∷ module_path [] dotted (codes ".py")
    ∷ []

-- the first place of a path
abbrev pub place_of : List (List ℕ) → List ℕ → Option ℕ
place_of [] path = None
place_of (p ∷ paths) path = if bytes_eq path p then Some 0 else option_map suc (place_of paths path)

-- the place of the first that is there
abbrev pub first_there : List (List ℕ) → List (List ℕ) → Option ℕ
first_there paths [] = None
first_there paths (path ∷ others) = option_or (place_of paths path) (first_there paths others)

-- THE PLACE OF THE PATH THAT AN IMPORT NAMES
abbrev pub module_place : List (List ℕ) → List ℕ → List (List ℕ) → Option ℕ
module_place paths importer dotted = first_there paths (candidates importer dotted)

-- The same by places. A path is among the paths
pub record IsAmong (paths : List (List ℕ)) (path : List ℕ) : Type 0 where
  pub at : ℕ
  pub is : slice_get paths at ≡ Some path

-- the path at a place is the first of those looked for that is among the paths
pub record IsNamed (paths looked_for : List (List ℕ)) (at : ℕ) : Type 0 where
  pub which : ℕ
  pub path : List ℕ
  pub is_looked_for : slice_get looked_for which ≡ Some path
  pub is : slice_get paths at ≡ Some path
  pub none_before : (earlier : ℕ) (other : List ℕ) → earlier < which → slice_get looked_for earlier ≡ Some other → ¬ IsAmong paths other

-- none of those looked for is among the paths
abbrev pub NoneThere : List (List ℕ) → List (List ℕ) → Type 0
NoneThere paths looked_for = (which : ℕ) (path : List ℕ) → slice_get looked_for which ≡ Some path → ¬ IsAmong paths path

-- what stands behind a front, where a text begins with it
abbrev pub rest_after : List ℕ → List ℕ → Option (List ℕ)
rest_after [] text = Some text
rest_after (c ∷ front) [] = None
rest_after (c ∷ front) (d ∷ text) = if c == d then rest_after front text else None
