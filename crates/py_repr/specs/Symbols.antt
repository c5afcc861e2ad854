-- Texts as symbols, and what is shown of them.
use Rattle.std.specs.Prelude.{ℕ, Bool, true, false, List, [], ◌∷◌, length, nat_lt, map, take}
use Rattle.std.specs.List.{list_any}
use Rattle.py_repr.specs.declared.shown.Shown.{Shown}

-- a character, or the first of the three dots of a value that lies too deep
pub data Symbol : Type 0 where
  Char : ℕ → Symbol
  Deep : Symbol

abbrev pub glyphs : List ℕ → List Symbol
glyphs text = map Char text

-- a value that lies too deep
abbrev pub dots : List Symbol
dots = Deep ∷ Char 46 ∷ Char 46 ∷ []

abbrev pub char_of : Symbol → ℕ
char_of (Char c) = c
char_of Deep = 46

abbrev pub is_deep : Symbol → Bool
is_deep (Char c) = false
is_deep Deep = true

-- the first characters of a text, whether it is longer, and whether a value that lies too deep begins in them
abbrev pub shown : ℕ → List Symbol → Shown
shown most xs = record { text = map char_of (take most xs); cut = nat_lt most (length xs); deep = list_any is_deep (take most xs) }
