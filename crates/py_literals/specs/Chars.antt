-- The classes of characters (Language Reference, lexical analysis).
use Rattle.std.specs.Prelude.{ℕ, ◌==◌, Bool, false, if◌then◌else◌, ◌&&◌, ◌||◌, not, List, [], ◌∷◌}

-- whether the text has a first character, and that one passes
abbrev pub begins_with : (ℕ → Bool) → List ℕ → Bool
begins_with passes [] = false
begins_with passes (c ∷ cs) = passes c

abbrev pub is_newline : ℕ → Bool
is_newline c = c == 10

-- how many characters the line end has that the text begins with
abbrev pub line_end : List ℕ → ℕ
line_end [] = 0
line_end (c ∷ cs) = if c == 10 then 1 else (if (c == 13) && begins_with is_newline cs then 2 else 0)

abbrev pub is_underscore : ℕ → Bool
is_underscore c = c == 95

abbrev pub is_letter : ℕ → ℕ → ℕ → Bool
is_letter small large c = (c == small) || (c == large)

-- whether the text begins with a line end
abbrev pub begins_line_end : List ℕ → Bool
begins_line_end cs = not (line_end cs == 0)
