-- Where a part stands first in a text (Python library reference, `str.find`), and texts as bytes, in which it is looked for.
use Rattle.std.specs.Prelude.{ℕ, suc, ◌+◌, ◌/◌, ◌%◌, List, [], ◌∷◌, nat_eq, if◌then◌else◌, Option, Some, None}
use Rattle.std.specs.List.{starts_with}

-- the place from which on a part stands first, counted on from a number
abbrev pub first_place : List ℕ → ℕ → List ℕ → Option ℕ
first_place part at [] = if starts_with nat_eq [] part then Some at else None
first_place part at (c ∷ cs) = if starts_with nat_eq (c ∷ cs) part then Some at else first_place part (suc at) cs

-- three bytes for a character, of which the first alone is 128 or more: so a part stands only where a character begins
abbrev pub encoded : List ℕ → List ℕ
encoded [] = []
encoded (c ∷ cs) = (128 + c / 16384) ∷ (c / 128 % 128) ∷ (c % 128) ∷ encoded cs
