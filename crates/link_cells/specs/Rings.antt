-- Words that hold two links each, and the rings that they form.
use Rattle.std.specs.Prelude.{◌≡◌, ℕ, ◌<◌, ◌+◌, List, [], ◌∷◌, length, slice_index_or, slice_set, zero, suc, ◌≤◌, if◌then◌else◌, ◌==◌}
use Rattle.cell_words.specs.Lists.{Lists}
use Rattle.link_cells.specs.declared.link.Link.{Link}
use Rattle.link_cells.specs.declared.link.Link.TheVariants.{Cell, Head}
use Rattle.link_cells.specs.declared.link.Links.{Links}

abbrev pub CellWords : Type 0
CellWords = Lists Links Links

-- a word that leads to itself
abbrev pub alone : ℕ → Links
alone head = record { back = Head head; ahead = Head head }

-- the links of a word
abbrev pub links_of : CellWords → Link → Links
links_of w (Cell c) = slice_index_or w.cells c (alone 0)
links_of w (Head h) = slice_index_or w.heads h (alone 0)

abbrev pub ahead_of : CellWords → Link → Link
ahead_of w at = (links_of w at).ahead

abbrev pub back_of : CellWords → Link → Link
back_of w at = (links_of w at).back

-- the word is there
abbrev pub HasWord : CellWords → Link → Type 0
HasWord w (Cell c) = c < length w.cells
HasWord w (Head h) = h < length w.heads

-- one word is written
abbrev pub put : CellWords → Link → Links → CellWords
put w (Cell c) links = record w { cells = slice_set w.cells c links }
put w (Head h) links = record w { heads = slice_set w.heads h links }

abbrev pub put_ahead : CellWords → Link → Link → CellWords
put_ahead w at to = put w at (record { back = back_of w at; ahead = to })

abbrev pub put_back : CellWords → Link → Link → CellWords
put_back w at to = put w at (record { back = to; ahead = ahead_of w at })

-- the two neighbours of a cell are linked past it
abbrev pub detached : CellWords → ℕ → CellWords
detached w c = put_back (put_ahead w (back_of w (Cell c)) (ahead_of w (Cell c))) (ahead_of w (Cell c)) (back_of w (Cell c))

-- a cell is linked between two neighbours
abbrev pub attached : CellWords → ℕ → Link → Link → CellWords
attached w c p q = put_back (put_ahead (put w (Cell c) (record { back = p; ahead = q })) p (Cell c)) q (Cell c)

-- the ring of a head that has cells is put in front of that of another
abbrev pub spliced : CellWords → ℕ → ℕ → CellWords
spliced w from to =
    let last = back_of w (Head from) in
    let first = ahead_of w (Head from) in
    let front = ahead_of w (Head to) in
    put (put_back (put_ahead (put_back (put_ahead w last front) front last) (Head to) first) first (Head to)) (Head from) (alone from)

-- from the word a through these cells to the word b, each word leads to the next and back
abbrev pub Linked : CellWords → Link → List ℕ → Link → Type 0
Linked w a [] b = (ahead_of w a ≡ b) × (back_of w b ≡ a)
Linked w a (c ∷ cs) b = (ahead_of w a ≡ Cell c) × (back_of w (Cell c) ≡ a) × Linked w (Cell c) cs b

-- how often x stands in a list
abbrev pub count : ℕ → List ℕ → ℕ
count x [] = 0
count x (y ∷ ys) = (if y == x then 1 else 0) + count x ys

-- the sum of f over the numbers below m
abbrev pub total : (ℕ → ℕ) → ℕ → ℕ
total f zero = 0
total f (suc m) = f m + total f m

-- the ring of each head is its row of cells, and no cell stands twice
pub record HasRings (w : CellWords) (rows : ℕ → List ℕ) : Type 0 where
  pub ring : (h : ℕ) → h < length w.heads → Linked w (Head h) (rows h) (Head h)
  pub within : (h c : ℕ) → h < length w.heads → 0 < count c (rows h) → c < length w.cells
  pub once : (c : ℕ) → total (λ h. count c (rows h)) (length w.heads) ≤ 1

-- a cell goes from where it stands to the front of the ring of a head, or to its back
abbrev pub moved_front : CellWords → ℕ → ℕ → CellWords
moved_front w c h = attached (detached w c) c (Head h) (ahead_of (detached w c) (Head h))

abbrev pub moved_back : CellWords → ℕ → ℕ → CellWords
moved_back w c h = attached (detached w c) c (back_of (detached w c) (Head h)) (Head h)

-- a cell may go from where it stands to the ring of a head
pub record CanMove (w : CellWords) (c h : ℕ) : Type 0 where
  pub cell : c < length w.cells
  pub back : HasWord w (back_of w (Cell c))
  pub ahead : HasWord w (ahead_of w (Cell c))
  pub head : h < length w.heads
  pub first : HasWord (detached w c) (ahead_of (detached w c) (Head h))
  pub last : HasWord (detached w c) (back_of (detached w c) (Head h))
  pub same_cells : length (detached w c).cells ≡ length w.cells
  pub same_heads : length (detached w c).heads ≡ length w.heads
