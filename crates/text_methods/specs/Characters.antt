-- Characters of texts (Python library reference, string methods). Blanks, digits and case are those of ASCII.
use Rattle.std.specs.Prelude.{ℕ, Bool, not, ◌&&◌, ◌||◌, List, [], ◌∷◌, length, eqb, reverse, if◌then◌else◌}
use Rattle.std.specs.List.{list_all}
use Rattle.std.specs.Char.{is_ascii_digit}

-- \t \n \v \f \r and the space
abbrev pub is_blank : ℕ → Bool
is_blank c = eqb c 9 || eqb c 10 || eqb c 11 || eqb c 12 || eqb c 13 || eqb c 32

-- one character at least, and only digits
abbrev pub is_digits : List ℕ → Bool
is_digits t = not (eqb (length t) 0) && list_all is_ascii_digit t

-- a text from its first character on that is no blank
abbrev pub from_word : List ℕ → List ℕ
from_word [] = []
from_word (c ∷ cs) = if is_blank c then from_word cs else c ∷ cs

-- a text up to its last character that is no blank
abbrev pub to_word : List ℕ → List ℕ
to_word t = reverse (from_word (reverse t))

-- a text without the blanks at its ends
abbrev pub stripped : List ℕ → List ℕ
stripped t = to_word (from_word t)
