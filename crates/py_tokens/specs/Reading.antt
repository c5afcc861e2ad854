-- What the parts of the reader promise of the text that is left.
use Rattle.std.specs.Prelude.{◌≡◌, ℕ, ◌<◌, ◌≤◌, Bool, true, false, List, [], ◌∷◌, Result, Ok, Err, length, take, ◌==◌, ◌||◌}
use Rattle.py_source.specs.declared.pos.Pos.{Pos}
use Rattle.py_source.specs.declared.fault.LexKind.{LexKind}
use Rattle.py_literals.specs.Literals.{put_before}
use Rattle.py_literals.specs.declared.literal.Miss.{Miss}
use Rattle.py_tokens.specs.Lexemes.{lexeme_at}
use Rattle.py_tokens.specs.declared.lexeme.Lexeme.{Lexeme}
use Rattle.py_tokens.specs.declared.bracket.Bracket.{Bracket}
use Rattle.py_tokens.specs.declared.place.Place.{Place}
use Rattle.py_tokens.specs.declared.token.Token.{Token}
use Rattle.py_tokens.specs.declared.token.LexFault.{LexFault}
use Rattle.py_tokens.specs.declared.token.LexFault.TheVariants.{Bad, OutOfMemory}
use Rattle.py_tokens.specs.Places.{place_behind}
use Rattle.py_tokens.specs.Layout.{Mark, marks_of, lines_of, lines_at, statement, layout_of, behind_gaps, indent_at, then_read, columns_with}

-- the answer of a bracket at a place: the brackets that are open then, or its fault
abbrev pub IsBracketsAnswer : Result (List Bracket) LexKind → Pos → List Bracket → Result (Unit {0}) LexFault → Type 0
IsBracketsAnswer meant at after (Ok done) = meant ≡ Ok after
IsBracketsAnswer meant at after (Err (Bad pos kind)) = (meant ≡ Err kind) × (pos ≡ at)
IsBracketsAnswer meant at after (Err OutOfMemory) = Unit {0}

-- the answer of a part that adds tokens to those before
abbrev pub IsAdded : Result (List Token) LexFault → List Token → Result (Unit {0}) LexFault → Type 0
IsAdded meant after (Ok done) = meant ≡ Ok after
IsAdded meant after (Err (Bad pos kind)) = meant ≡ Err (Bad pos kind)
IsAdded meant after (Err OutOfMemory) = Unit {0}

abbrev pub first_line : List (List Mark) → List Mark
first_line [] = []
first_line (line ∷ lines) = line

abbrev pub other_lines : List (List Mark) → List (List Mark)
other_lines [] = []
other_lines (line ∷ lines) = lines

-- where a statement is read: the tokens so far, the open brackets, and the text that is left
pub record Spot : Type 0 where
  pub tokens : List Token
  pub brackets : List Bracket
  pub place : Place
  pub rest : List ℕ

abbrev pub spot : List Token → List Bracket → Place → List ℕ → Spot
spot tokens brackets place rest = record { tokens = tokens; brackets = brackets; place = place; rest = rest }

-- the lines that are left there
abbrev pub lines_left : Spot → List (List Mark)
lines_left s = lines_of (length s.brackets) (marks_of s.place 0 s.rest)

-- the tokens so far and those of the rest of the statement
abbrev pub meant : Spot → Result (List Token) LexFault
meant s = put_before s.tokens (statement s.brackets (first_line (lines_left s)))

-- lines with the same tokens, whatever columns are open before them
abbrev pub SameLayout : List (List Mark) → List (List Mark) → Type 0
SameLayout xs ys = (columns : List ℕ) (end : Place) → layout_of columns end xs ≡ layout_of columns end ys

-- where the text ends
abbrev pub text_end : Spot → Place
text_end s = place_behind s.place s.rest

-- a part of a statement was read, and it goes on
pub record GoesOn (old new : Spot) : Type 0 where
  pub same : meant new ≡ meant old
  pub others : other_lines (lines_left new) ≡ other_lines (lines_left old)
  pub end : text_end new ≡ text_end old
  pub shorter : length new.rest < length old.rest

-- a part or nothing was read
pub record Progress (old new : Spot) : Type 0 where
  pub same : meant new ≡ meant old
  pub others : other_lines (lines_left new) ≡ other_lines (lines_left old)
  pub end : text_end new ≡ text_end old
  pub no_longer : length new.rest ≤ length old.rest

-- the rest of a statement was read
pub record EndsStatement (old new : Spot) : Type 0 where
  pub whole : meant old ≡ Ok new.tokens
  pub others : SameLayout (other_lines (lines_left old)) (lines_at new.place new.rest)
  pub end : text_end new ≡ text_end old
  pub no_longer : length new.rest ≤ length old.rest
  pub shorter : 0 < length old.rest → length new.rest < length old.rest

-- the answer of a part of a statement
abbrev pub IsPart : Spot → Spot → Result (Unit {0}) LexFault → Type 0
IsPart old new (Ok done) = GoesOn old new
IsPart old new (Err (Bad pos kind)) = meant old ≡ Err (Bad pos kind)
IsPart old new (Err OutOfMemory) = Unit {0}

-- the same of a part that may end the statement
abbrev pub IsStep : Spot → Spot → Result Bool LexFault → Type 0
IsStep old new (Ok true) = GoesOn old new
IsStep old new (Ok false) = EndsStatement old new
IsStep old new (Err (Bad pos kind)) = meant old ≡ Err (Bad pos kind)
IsStep old new (Err OutOfMemory) = Unit {0}

-- and of all that is left of it
abbrev pub IsStatement : Spot → Spot → Result (Unit {0}) LexFault → Type 0
IsStatement old new (Ok done) = EndsStatement old new
IsStatement old new (Err (Bad pos kind)) = meant old ≡ Err (Bad pos kind)
IsStatement old new (Err OutOfMemory) = Unit {0}

-- the token that a text begins with, or its fault at its place
abbrev pub IsLexemeAt : Place → List ℕ → Result Lexeme LexFault → Type 0
IsLexemeAt place rest (Ok lexeme) = lexeme_at rest ≡ Ok lexeme
IsLexemeAt place rest (Err (Bad pos kind)) = (miss : Miss) × (lexeme_at rest ≡ Err miss) × (pos ≡ (place_behind place (take miss.at rest)).pos) × (kind ≡ miss.kind)
IsLexemeAt place rest (Err OutOfMemory) = Unit {0}

-- LINES
abbrev pub is_blank : ℕ → Bool
is_blank c = (c == 32) || (c == 9)

-- what stands before the first token of a line was passed
pub record PassesGaps (old_place : Place) (old_rest : List ℕ) (place : Place) (rest : List ℕ) : Type 0 where
  pub line : behind_gaps (first_line (lines_at place rest)) ≡ behind_gaps (first_line (lines_at old_place old_rest))
  pub others : other_lines (lines_at place rest) ≡ other_lines (lines_at old_place old_rest)
  pub end : place_behind place rest ≡ place_behind old_place old_rest
  pub no_longer : length rest ≤ length old_rest

-- where a text is read: the tokens so far, the open columns, and the text that is left
pub record State : Type 0 where
  pub tokens : List Token
  pub columns : List ℕ
  pub place : Place
  pub rest : List ℕ

abbrev pub lexer_state : List Token → List ℕ → Place → List ℕ → State
lexer_state tokens columns place rest = record { tokens = tokens; columns = columns; place = place; rest = rest }

-- the tokens so far and those of all that is left, for a place of the text's end
abbrev pub whole_from : State → Place → Result (List Token) LexFault
whole_from s end = put_before s.tokens (layout_of s.columns end (lines_at s.place s.rest))

-- a line was read
pub record ReadsLine (old new : State) : Type 0 where
  pub same : (end : Place) → whole_from new end ≡ whole_from old end
  pub end : place_behind new.place new.rest ≡ place_behind old.place old.rest
  pub shorter : length new.rest < length old.rest

abbrev pub IsLine : State → State → Result (Unit {0}) LexFault → Type 0
IsLine old new (Ok done) = ReadsLine old new
IsLine old new (Err (Bad pos kind)) = (end : Place) → whole_from old end ≡ Err (Bad pos kind)
IsLine old new (Err OutOfMemory) = Unit {0}

-- the tokens so far and those of the line that begins with a token and has this column
abbrev pub line_meant : ℕ → State → Result (List Token) LexFault
line_meant column s = put_before s.tokens (then_read (indent_at s.columns column s.place) (statement [] (first_line (lines_at s.place s.rest))))

-- such a line was read
pub record ReadsTokens (column : ℕ) (old new : State) : Type 0 where
  pub whole : line_meant column old ≡ Ok new.tokens
  pub columns : new.columns ≡ columns_with old.columns column
  pub others : SameLayout (other_lines (lines_at old.place old.rest)) (lines_at new.place new.rest)
  pub end : place_behind new.place new.rest ≡ place_behind old.place old.rest
  pub shorter : 0 < length old.rest → length new.rest < length old.rest

abbrev pub IsLineRead : ℕ → State → State → Result (Unit {0}) LexFault → Type 0
IsLineRead column old new (Ok done) = ReadsTokens column old new
IsLineRead column old new (Err (Bad pos kind)) = line_meant column old ≡ Err (Bad pos kind)
IsLineRead column old new (Err OutOfMemory) = Unit {0}
