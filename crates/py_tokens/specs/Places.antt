-- Places in a text, and what stands between its tokens (Language Reference, line structure).
use Rattle.std.specs.Prelude.{ℕ, ◌==◌, ◌+◌, ◌-◌, ◌^◌, min, if◌then◌else◌, ◌||◌, List, [], ◌∷◌}
use Rattle.std.specs.Char.{len_utf8}
use Rattle.py_source.specs.declared.pos.Pos.{Pos}
use Rattle.py_literals.specs.Chars.{line_end, begins_line_end}
use Rattle.py_tokens.specs.declared.place.Place.{Place}

-- counts that reach the end of their type stand still there
abbrev pub next_pos : Pos → ℕ → Pos
next_pos pos c = if c == 10 then record { line = min (pos.line + 1) (2 ^ 32 - 1); column = 1 } else record { line = pos.line; column = min (pos.column + 1) (2 ^ 32 - 1) }

-- the place right behind a character
unfoldable pub next_place : Place → ℕ → Place
next_place place c = record { pos = next_pos place.pos c; offset = min (place.offset + len_utf8 c) (2 ^ 64 - 1) }

-- the place behind some characters
abbrev pub place_behind : Place → List ℕ → Place
place_behind place [] = place
place_behind place (c ∷ cs) = place_behind (next_place place c) cs

-- a comment ends with its line
abbrev pub comment_len : List ℕ → ℕ
comment_len [] = 0
comment_len (c ∷ cs) = if begins_line_end (c ∷ cs) then 0 else 1 + comment_len cs

abbrev pub joint_len : List ℕ → ℕ
joint_len cs = if begins_line_end cs then 1 + line_end cs else 0

-- how many characters the blank, the joint of two lines or the comment has that the text begins with, else none
abbrev pub gap_len : List ℕ → ℕ
gap_len [] = 0
gap_len (c ∷ cs) = if (c == 32) || (c == 9) then 1 else (if c == 35 then 1 + comment_len cs else (if c == 92 then joint_len cs else 0))
