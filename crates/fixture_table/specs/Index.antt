-- The definitions of each node, and what each entry of a closure asks for, by places.
use Rattle.std.specs.Prelude.{◌≡◌, ℕ, ◌+◌, ◌<◌, ◌≤◌, ◌==◌, ◌&&◌, Bool, true, false, List, [], ◌∷◌, length, map, Option, slice_index_or, if◌then◌else◌}
use Rattle.fixture_table.specs.declared.types.CollectionNode.{CollectionNode}
use Rattle.fixture_table.specs.declared.types.FixtureDef.{FixtureDef}
use Rattle.fixture_table.specs.declared.entry.Entry.{Entry}
use Rattle.fixture_table.specs.Nearest.{def_at, is_beyond}
use Rattle.fixture_table.specs.Closing.{requested_by, entry_at, has}
use Rattle.fixture_table.specs.Marks.{Below, row_of}

-- those that stand at a node, in order, numbered from a place on
abbrev pub placed_from : ℕ → ℕ → List FixtureDef → List ℕ
placed_from place node [] = []
placed_from place node (one ∷ rest) = if one.node == node then place ∷ placed_from (place + 1) node rest else placed_from (place + 1) node rest

abbrev pub placed_at : List FixtureDef → ℕ → List ℕ
placed_at defs node = placed_from 0 node defs

-- a row for each node, with the definitions that stand there
pub record IsIndex (nodes : List CollectionNode) (defs : List FixtureDef) (rows : List (List ℕ)) : Type 0 where
  pub many : length nodes ≤ length rows
  pub listed : (node : ℕ) → row_of rows node ≡ placed_at defs node

-- the names of the autouse ones among these
abbrev pub autouse_names : List FixtureDef → List ℕ → List ℕ
autouse_names defs [] = []
autouse_names defs (d ∷ ds) = if (def_at defs d).autouse then (def_at defs d).name ∷ autouse_names defs ds else autouse_names defs ds

-- whether a definition has this name and stands further out than another, where that is given
abbrev pub is_called : List CollectionNode → List FixtureDef → ℕ → Option ℕ → ℕ → Bool
is_called nodes defs name beyond d = ((def_at defs d).name == name) && is_beyond nodes defs beyond d (def_at defs d)

-- the last of a row of which this holds
pub record IsLast (holds : ℕ → Bool) (row : List ℕ) (d : ℕ) : Type 0 where
  pub place : ℕ
  pub within : place < length row
  pub is : slice_index_or row place 0 ≡ d
  pub so : holds d ≡ true
  pub behind : (q : ℕ) → place < q → q < length row → holds (slice_index_or row q 0) ≡ false

-- it holds of none
abbrev pub HoldsOfNone : (ℕ → Bool) → List ℕ → Type 0
HoldsOfNone holds row = (q : ℕ) → q < length row → holds (slice_index_or row q 0) ≡ false

module _ (nodes : List CollectionNode) (defs : List FixtureDef) (item : ℕ) (bound : List ℕ) where
  -- what each entry asks for is among the entries
  abbrev pub IsShut : List Entry → Type 0
  IsShut entries = (p : ℕ) (x : Entry) → p < length entries → has x (requested_by nodes defs item bound (entry_at entries p)) ≡ true → has x entries ≡ true

  -- the places of what an entry asks for
  pub record IsRow (entries : List Entry) (entry : Entry) (row : List ℕ) : Type 0 where
    pub same : map (entry_at entries) row ≡ requested_by nodes defs item bound entry
    pub below : Below row (length entries)

  -- a row for each entry
  pub record AreEntryRows (entries : List Entry) (asks : List (List ℕ)) : Type 0 where
    pub many : length asks ≡ length entries
    pub rows : (p : ℕ) → p < length entries → IsRow entries (entry_at entries p) (row_of asks p)
