use Rattle.std.specs.Prelude.{ℕ, ◌+◌, ◌-◌, ◌*◌, ◌/◌, max, List, [], ◌∷◌, ◌++◌, length, replicate, decimal, nat_lt, ◌==◌, if◌then◌else◌, flat_map}
use Rattle.std.specs.Str.{chars}

-- a line: a text with its line end
abbrev pub ended : List ℕ → List ℕ
ended text = text ++ 10 ∷ []

-- how many characters a title line has, where its text is short enough
abbrev pub title_width : ℕ
title_width = 80

-- how many fill characters stand on each side of a title of that many characters
abbrev pub bar_length : ℕ → ℕ
bar_length count = max 1 ((title_width - count - 2) / 2)

-- the bar behind the text has one fill character more where the line would be shorter
abbrev pub last_length : ℕ → ℕ
last_length count = if nat_lt (count + 2 + 2 * bar_length count) title_width then bar_length count + 1 else bar_length count

-- a title line: the text between two bars of fill characters, of that many characters or more
unfoldable pub title : ℕ → List ℕ → List ℕ
title fill text =
    let count = length (chars text) in
    replicate (bar_length count) fill ++ (32 ∷ (text ++ (32 ∷ ended (replicate (last_length count) fill))))

-- the plural's ending
abbrev pub plural : ℕ → List ℕ
plural n = if n == 1 then [] else 115 ∷ []

-- a number of things: `1 item`, `2 items`
abbrev pub counted : ℕ → List ℕ → List ℕ
counted n noun = decimal n ++ (32 ∷ (noun ++ plural n))

-- texts with a separator between each two
abbrev pub joined : List ℕ → List (List ℕ) → List ℕ
joined separator [] = []
joined separator (piece ∷ pieces) = piece ++ flat_map (λ other. separator ++ other) pieces
