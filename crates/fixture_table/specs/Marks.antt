-- Marks on numbers, the list of the marked ones, and rows of numbers.
use Rattle.std.specs.Prelude.{◌≡◌, ℕ, ◌<◌, ◌≤◌, Bool, true, false, List, [], length, slice_index_or}
use Rattle.session_types.specs.Numbers.{among}

-- those that are marked are those that are listed
abbrev pub Marks : List Bool → List ℕ → Type 0
Marks seen reached = (e : ℕ) → slice_index_or seen e false ≡ among e reached

abbrev pub Below : List ℕ → ℕ → Type 0
Below xs m = (e : ℕ) → among e xs ≡ true → e < m

-- what was listed stands where it stood
pub record IsPrefixOf (xs ys : List ℕ) : Type 0 where
  pub longer : length xs ≤ length ys
  pub same : (p : ℕ) → p < length xs → slice_index_or ys p 0 ≡ slice_index_or xs p 0

-- the row at a place, and none past the end
abbrev pub row_of : List (List ℕ) → ℕ → List ℕ
row_of rows d = slice_index_or rows d []
