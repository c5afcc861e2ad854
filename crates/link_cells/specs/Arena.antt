-- What an arena is seen as, and what its words, values and heads mean.
use Rattle.std.specs.Prelude.{◌≡◌, ℕ, ◌<◌, ◌≤◌, Bool, true, false, List, [], ◌∷◌, ◌++◌, length, map, Option, None, Some, is_some, if◌then◌else◌, slice_index_or, slice_set, zero, suc}
use Rattle.std.specs.List.{range_with_len}
use Rattle.link_cells.specs.declared.link.Link.{Link}
use Rattle.link_cells.specs.declared.link.Link.TheVariants.{Cell, Head}
use Rattle.link_cells.specs.declared.id.CellId.{CellId}
use Rattle.link_cells.specs.Rings.{CellWords, ahead_of, count, total, HasRings}

-- one list per head in use, each value with the name of its cell; how many cells and heads are spare
pub record Arena (T : Type 0) : Type 0 where
  pub lists : List (Option (List (CellId × T)))
  pub spare : ℕ
  pub spare_heads : ℕ

-- the list of a head, where it is in use
abbrev pub list_at_head : {T : Type 0} → Arena T → ℕ → Option (List (CellId × T))
list_at_head arena head = slice_index_or arena.lists head None

-- the cell stands in a list, between these
abbrev pub StandsBetween : {T : Type 0} → Arena T → CellId → ℕ → List (CellId × T) → T → List (CellId × T) → Type 0
StandsBetween arena id head front value back = list_at_head arena head ≡ Some (front ++ (id, value) ∷ back)

-- the cell is in use
abbrev pub InUse : {T : Type 0} → Arena T → CellId → Type 0
InUse {T} arena id = (head : ℕ) × (front : List (CellId × T)) × (value : T) × (back : List (CellId × T)) × StandsBetween arena id head front value back

-- the list of a head is put in place of the one before
abbrev pub with_list : {T : Type 0} → Arena T → ℕ → List (CellId × T) → Arena T
with_list arena head list = record arena { lists = slice_set arena.lists head (Some list) }

-- the name of the first cell, and of the last
abbrev pub first_name : {T : Type 0} → List (CellId × T) → Option CellId
first_name [] = None
first_name (entry ∷ rest) = Some entry.0

abbrev pub last_name : {T : Type 0} → List (CellId × T) → Option CellId
last_name [] = None
last_name (entry ∷ []) = Some entry.0
last_name (entry ∷ (next ∷ rest)) = last_name (next ∷ rest)

-- the cells from a word on, up to a head
abbrev pub cells_from : CellWords → ℕ → Link → List ℕ
cells_from w zero at = []
cells_from w (suc most) (Head h) = []
cells_from w (suc most) (Cell c) = c ∷ cells_from w most (ahead_of w (Cell c))

abbrev pub cells_of_head : CellWords → ℕ → List ℕ
cells_of_head w h = cells_from w (length w.cells) (ahead_of w (Head h))

abbrev pub entry_onto : {T : Type 0} → Option T → ℕ → List (CellId × T) → List (CellId × T)
entry_onto None c rest = rest
entry_onto (Some value) c rest = (record { cell = c }, value) ∷ rest

-- the values of a row, each with the name of its cell
abbrev pub entries : {T : Type 0} → List (Option T) → List ℕ → List (CellId × T)
entries values [] = []
entries values (c ∷ cs) = entry_onto (slice_index_or values c None) c (entries values cs)

abbrev pub is_used : List Bool → ℕ → Bool
is_used used h = slice_index_or used h false

abbrev pub list_if_used : {T : Type 0} → List Bool → List (Option T) → (ℕ → List ℕ) → ℕ → Option (List (CellId × T))
list_if_used used values rows h = if is_used used h then Some (entries values (rows h)) else None

-- the lists, by head
abbrev pub lists_of : {T : Type 0} → List Bool → List (Option T) → (ℕ → List ℕ) → ℕ → List (Option (List (CellId × T)))
lists_of used values rows many = map (list_if_used used values rows) (range_with_len 0 many)

-- head 0 has the spare cells, and each other head is in use or spare
pub record IsArena {T : Type 0} (w : CellWords) (values : List (Option T)) (used : List Bool) (free : List ℕ) (room spare : ℕ) : Type 0 where
  pub rows : ℕ → List ℕ
  pub fits : HasRings w rows
  pub sum : total (λ h. length (rows h)) (length w.heads) ≡ length w.cells
  pub spare_is : spare ≡ length (rows 0)
  pub values_many : length values ≡ length w.cells
  pub used_many : length used ≡ length w.heads
  pub some_head : 0 < length w.heads
  pub own : is_used used 0 ≡ false
  pub full : (h c : ℕ) → h < length w.heads → is_used used h ≡ true → 0 < count c (rows h) → is_some (slice_index_or values c None) ≡ true
  pub empty : (h : ℕ) → 0 < h → h < length w.heads → is_used used h ≡ false → rows h ≡ []
  pub free_once : (h : ℕ) → 0 < h → h < length w.heads → count h free ≡ (if is_used used h then 0 else 1)
  pub free_in : (h : ℕ) → 0 < count h free → (0 < h) × (h < length w.heads)
  pub has_room : length w.heads ≤ room

-- the cell that a link names
abbrev pub named : Link → Option CellId
named (Cell c) = Some (record { cell = c })
named (Head h) = None
