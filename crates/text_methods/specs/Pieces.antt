-- Pieces of texts between separators, and pieces joined (Python library reference, `str.split`, `str.join`, `str.replace`, `str.count`).
use Rattle.std.specs.Prelude.{ℕ, zero, suc, ◌+◌, ◌-◌, Bool, not, List, [], ◌∷◌, ◌++◌, map, length, eqb, nat_eq, nat_lt, if◌then◌else◌, Option, Some, None}
use Rattle.std.specs.List.{filter, starts_with}
use Rattle.py_values.specs.Limits.{most_elements}
use Rattle.text_methods.specs.Characters.{is_blank}

-- a character more at the front of the first piece
abbrev pub with_first : ℕ → List (List ℕ) → List (List ℕ)
with_first c [] = (c ∷ []) ∷ []
with_first c (p ∷ ps) = (c ∷ p) ∷ ps

-- the pieces between the places where a part stands, which don't overlap; so many characters of such a place are left
abbrev pub cut_behind : List ℕ → ℕ → List ℕ → List (List ℕ)
cut_behind part n [] = [] ∷ []
cut_behind part zero (c ∷ cs) =
    if starts_with nat_eq (c ∷ cs) part then [] ∷ cut_behind part (length part - 1) cs else with_first c (cut_behind part zero cs)
cut_behind part (suc n) (c ∷ cs) = cut_behind part n cs

-- a text of one character for each
abbrev pub singles : List ℕ → List (List ℕ)
singles t = map (λ c. c ∷ []) t

-- the pieces between the places where a part stands; the empty part stands before each character and at the end
abbrev pub pieces : List ℕ → List ℕ → List (List ℕ)
pieces [] t = [] ∷ (singles t ++ [] ∷ [])
pieces (c ∷ cs) t = cut_behind (c ∷ cs) 0 t

-- how often a part stands in a text without overlap
abbrev pub occurrences : List ℕ → List ℕ → ℕ
occurrences part t = length (pieces part t) - 1

-- the pieces between blanks
abbrev pub cut_at_blanks : List ℕ → List (List ℕ)
cut_at_blanks [] = [] ∷ []
cut_at_blanks (c ∷ cs) = if is_blank c then [] ∷ cut_at_blanks cs else with_first c (cut_at_blanks cs)

abbrev pub has_chars : List ℕ → Bool
has_chars t = not (eqb (length t) 0)

-- the words between blanks: no piece is empty
abbrev pub words : List ℕ → List (List ℕ)
words t = filter has_chars (cut_at_blanks t)

-- an open piece at the end of the words
abbrev pub kept : List ℕ → List (List ℕ)
kept t = if has_chars t then t ∷ [] else []

-- pieces, each behind a separator
abbrev pub joined_behind : List ℕ → List (List ℕ) → List ℕ
joined_behind sep [] = []
joined_behind sep (p ∷ ps) = sep ++ (p ++ joined_behind sep ps)

-- pieces with a separator between them
abbrev pub joined : List ℕ → List (List ℕ) → List ℕ
joined sep [] = []
joined sep (p ∷ ps) = p ++ joined_behind sep ps

-- a text that isn't too long
abbrev pub short_text : List ℕ → Option (List ℕ)
short_text t = if nat_lt most_elements (length t) then None else Some t

-- whether three texts behind one another aren't too long
abbrev pub has_room : List ℕ → List ℕ → List ℕ → Bool
has_room a b c = not (nat_lt most_elements (length a + length b + length c))
