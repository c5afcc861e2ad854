-- THE TOKENS OF A TEXT (Language Reference, line structure: logical lines, explicit and implicit line joining, blank lines, indentation).
use Rattle.std.specs.Prelude.{◌≡◌, ℕ, ◌==◌, ◌+◌, ◌-◌, Bool, true, false, if◌then◌else◌, List, [], ◌∷◌, ◌++◌, Option, None, Some, Result, Ok, Err, nat_lt, drop, take, length, replicate, slice_get, slice_index}
use Rattle.std.proofs.Common.{zero, suc, Vec, Global}
use Rattle.std.specs.List.{suffix_len, prefix_len}
use Rattle.py_source.specs.Limits.{most_levels}
use Rattle.py_source.specs.declared.pos.Pos.{Pos}
use Rattle.py_source.specs.declared.fault.LexKind.{LexKind}
use Rattle.py_source.specs.declared.fault.LexKind.TheVariants as fault
use Rattle.py_literals.specs.Chars.{line_end, begins_line_end, begins_with}
use Rattle.py_literals.specs.Literals.{put_before}
use Rattle.py_literals.specs.declared.literal.Miss.{Miss}
use Rattle.py_tokens.specs.declared.op.Op.{Op}
use Rattle.py_tokens.specs.declared.op.Op.TheVariants as op
use Rattle.py_tokens.specs.declared.lexeme.Lexeme.{Lexeme}
use Rattle.py_tokens.specs.declared.place.Place.{Place}
use Rattle.py_tokens.specs.declared.token.Token.{Token}
use Rattle.py_tokens.specs.declared.token.TokenKind.{TokenKind}
use Rattle.py_tokens.specs.declared.token.TokenKind.TheVariants as kind
use Rattle.py_tokens.specs.declared.token.LexFault.{LexFault}
use Rattle.py_tokens.specs.declared.token.LexFault.TheVariants.{Bad, OutOfMemory}
use Rattle.py_tokens.specs.declared.bracket.Bracket.{Bracket}
use Rattle.py_tokens.specs.declared.bracket.BracketRole.{BracketRole}
use Rattle.py_tokens.specs.declared.bracket.BracketRole.TheVariants.{Opens, Closes, Neither}
use Rattle.py_tokens.specs.declared.bracket.Shape.{Shape}
use Rattle.py_tokens.specs.declared.bracket.Shape.TheVariants.{Round, Square, Curly}
use Rattle.py_tokens.specs.Places.{next_place, place_behind, gap_len}
use Rattle.py_tokens.specs.Lexemes.{lexeme_at}

-- THE TEXT AS A LIST OF MARKS. What a text is made of, each at its place and up to the place behind it. The list ends with the text, or with the first place where no token is spelled.
pub data Mark : Type 0 where
  Space : Mark
  Tab : Pos → Mark
  Gap : Mark
  LineEnd : Place → Place → Mark
  TextEnd : Place → Mark
  Spelled : TokenKind → Place → Place → Mark
  Wrong : Place → Pos → LexKind → Mark

abbrev pub gap_mark : Place → List ℕ → Mark
gap_mark place [] = Gap
gap_mark place (c ∷ cs) = if c == 32 then Space else (if c == 9 then Tab place.pos else Gap)

abbrev pub spelled_marks : Place → List ℕ → (ℕ → List Mark) → Result Lexeme Miss → List Mark
spelled_marks place text rest (Ok lexeme) = Spelled lexeme.kind place (place_behind place (take lexeme.len text)) ∷ rest (lexeme.len - 1)
spelled_marks place text rest (Err miss) = Wrong place (place_behind place (take miss.at text)).pos miss.kind ∷ []

-- the mark that a text begins with, before those that `rest` gives for the part of it that is still to pass
abbrev pub marks_with : Place → List ℕ → (ℕ → List Mark) → List Mark
marks_with place text rest =
    if begins_line_end text then LineEnd place (place_behind place (take (line_end text) text)) ∷ rest (line_end text - 1)
    else (if nat_lt 0 (gap_len text) then gap_mark place text ∷ rest (gap_len text - 1)
    else spelled_marks place text rest (lexeme_at text))

-- the marks of a text that begins at a place, behind the rest of a mark before it
unfoldable pub marks_of : Place → ℕ → List ℕ → List Mark
marks_of place skip [] = TextEnd place ∷ []
marks_of place (suc skip) (c ∷ cs) = marks_of (next_place place c) skip cs
marks_of place zero (c ∷ cs) = marks_with place (c ∷ cs) (λ skip. marks_of (next_place place c) skip cs)

-- BRACKETS. What an operator does with them.
abbrev pub operator_role : Op → BracketRole
operator_role op.LeftParen = Opens Round
operator_role op.LeftBracket = Opens Square
operator_role op.LeftBrace = Opens Curly
operator_role op.RightParen = Closes Round
operator_role op.RightBracket = Closes Square
operator_role op.RightBrace = Closes Curly
operator_role op.DoubleStarEqual = Neither
operator_role op.DoubleSlashEqual = Neither
operator_role op.RightShiftEqual = Neither
operator_role op.LeftShiftEqual = Neither
operator_role op.Ellipsis = Neither
operator_role op.DoubleStar = Neither
operator_role op.DoubleSlash = Neither
operator_role op.RightShift = Neither
operator_role op.LeftShift = Neither
operator_role op.GreaterEqual = Neither
operator_role op.LessEqual = Neither
operator_role op.EqualEqual = Neither
operator_role op.NotEqual = Neither
operator_role op.Arrow = Neither
operator_role op.PlusEqual = Neither
operator_role op.MinusEqual = Neither
operator_role op.StarEqual = Neither
operator_role op.SlashEqual = Neither
operator_role op.PercentEqual = Neither
operator_role op.AmpersandEqual = Neither
operator_role op.BarEqual = Neither
operator_role op.CaretEqual = Neither
operator_role op.ColonEqual = Neither
operator_role op.AtEqual = Neither
operator_role op.Plus = Neither
operator_role op.Minus = Neither
operator_role op.Star = Neither
operator_role op.Slash = Neither
operator_role op.Percent = Neither
operator_role op.Ampersand = Neither
operator_role op.Bar = Neither
operator_role op.Caret = Neither
operator_role op.Tilde = Neither
operator_role op.Less = Neither
operator_role op.Greater = Neither
operator_role op.Comma = Neither
operator_role op.Colon = Neither
operator_role op.Dot = Neither
operator_role op.Semicolon = Neither
operator_role op.Equal = Neither
operator_role op.At = Neither
operator_role op.False = Neither
operator_role op.None = Neither
operator_role op.True = Neither
operator_role op.And = Neither
operator_role op.As = Neither
operator_role op.Assert = Neither
operator_role op.Async = Neither
operator_role op.Await = Neither
operator_role op.Break = Neither
operator_role op.Class = Neither
operator_role op.Continue = Neither
operator_role op.Def = Neither
operator_role op.Del = Neither
operator_role op.Elif = Neither
operator_role op.Else = Neither
operator_role op.Except = Neither
operator_role op.Finally = Neither
operator_role op.For = Neither
operator_role op.From = Neither
operator_role op.Global = Neither
operator_role op.If = Neither
operator_role op.Import = Neither
operator_role op.In = Neither
operator_role op.Is = Neither
operator_role op.Lambda = Neither
operator_role op.Nonlocal = Neither
operator_role op.Not = Neither
operator_role op.Or = Neither
operator_role op.Pass = Neither
operator_role op.Raise = Neither
operator_role op.Return = Neither
operator_role op.Try = Neither
operator_role op.While = Neither
operator_role op.With = Neither
operator_role op.Yield = Neither

abbrev pub token_role : TokenKind → BracketRole
token_role (kind.Op operator) = operator_role operator
token_role (kind.Name name) = Neither
token_role (kind.Number number) = Neither
token_role (kind.Text text) = Neither
token_role kind.Newline = Neither
token_role kind.Indent = Neither
token_role kind.Dedent = Neither
token_role kind.End = Neither

abbrev pub depth_with : ℕ → BracketRole → ℕ
depth_with depth (Opens shape) = depth + 1
depth_with depth (Closes shape) = depth - 1
depth_with depth Neither = depth

-- how many brackets are open behind a mark
abbrev pub depth_behind : ℕ → Mark → ℕ
depth_behind depth (Spelled token from to) = depth_with depth (token_role token)
depth_behind depth Space = depth
depth_behind depth (Tab pos) = depth
depth_behind depth Gap = depth
depth_behind depth (LineEnd from to) = depth
depth_behind depth (TextEnd at) = depth
depth_behind depth (Wrong at pos why) = depth

-- LOGICAL LINES. A line ends at a line end outside brackets, and with the text.
abbrev pub ends_line : ℕ → Mark → Bool
ends_line depth (LineEnd from to) = depth == 0
ends_line depth (TextEnd at) = true
ends_line depth Space = false
ends_line depth (Tab pos) = false
ends_line depth Gap = false
ends_line depth (Spelled token from to) = false
ends_line depth (Wrong at pos why) = false

abbrev pub put_first : Mark → List (List Mark) → List (List Mark)
put_first mark [] = (mark ∷ []) ∷ []
put_first mark (line ∷ lines) = (mark ∷ line) ∷ lines

-- the lines of some marks, of which the first stand within so many brackets
abbrev pub lines_of : ℕ → List Mark → List (List Mark)
lines_of depth [] = []
lines_of depth (mark ∷ marks) = if ends_line depth mark then (mark ∷ []) ∷ lines_of 0 marks else put_first mark (lines_of (depth_behind depth mark) marks)

-- TOKENS
abbrev pub token_at : TokenKind → Place → Place → Token
token_at token from to = record { kind = token; at = from.pos; start = from.offset; end = to.offset }

-- one read behind the other; the first fault counts
abbrev pub then_read : Result (List Token) LexFault → Result (List Token) LexFault → Result (List Token) LexFault
then_read (Ok tokens) rest = put_before tokens rest
then_read (Err fault) rest = Err fault

-- INDENTATION. The column of a line is how many blanks it begins with, and these are spaces.
abbrev pub is_indent : Mark → Bool
is_indent Space = true
is_indent (Tab pos) = true
is_indent Gap = false
is_indent (LineEnd from to) = false
is_indent (TextEnd at) = false
is_indent (Spelled token from to) = false
is_indent (Wrong at pos why) = false

abbrev pub column_of : List Mark → ℕ
column_of line = prefix_len is_indent line

abbrev pub tab_of : List Mark → Option Pos
tab_of [] = None
tab_of (Space ∷ marks) = tab_of marks
tab_of (Tab pos ∷ marks) = Some pos
tab_of (Gap ∷ marks) = None
tab_of (LineEnd from to ∷ marks) = None
tab_of (TextEnd at ∷ marks) = None
tab_of (Spelled token from to ∷ marks) = None
tab_of (Wrong at pos why ∷ marks) = None

abbrev pub behind_gaps : List Mark → List Mark
behind_gaps [] = []
behind_gaps (Space ∷ marks) = behind_gaps marks
behind_gaps (Tab pos ∷ marks) = behind_gaps marks
behind_gaps (Gap ∷ marks) = behind_gaps marks
behind_gaps (LineEnd from to ∷ marks) = LineEnd from to ∷ marks
behind_gaps (TextEnd at ∷ marks) = TextEnd at ∷ marks
behind_gaps (Spelled token from to ∷ marks) = Spelled token from to ∷ marks
behind_gaps (Wrong at pos why ∷ marks) = Wrong at pos why ∷ marks

-- where a line has its first token; a line of blanks and a comment has none
abbrev pub first_place : List Mark → Option Place
first_place (Spelled token from to ∷ marks) = Some from
first_place (Wrong at pos kind ∷ marks) = Some at
first_place [] = None
first_place (Space ∷ marks) = None
first_place (Tab pos ∷ marks) = None
first_place (Gap ∷ marks) = None
first_place (LineEnd from to ∷ marks) = None
first_place (TextEnd at ∷ marks) = None

-- the innermost of the open columns, which begin with 0
abbrev pub top : List ℕ → ℕ
top columns = slice_index columns (length columns - 1)

abbrev pub deeper : ℕ → List ℕ → ℕ
deeper column columns = suffix_len (λ open_column. nat_lt column open_column) columns

-- the open columns without the deeper ones
abbrev pub without_deeper : ℕ → List ℕ → List ℕ
without_deeper column columns = take (length columns - deeper column columns) columns

-- the tokens before the first one of a line, which stand at its place
abbrev pub indent_at : List ℕ → ℕ → Place → Result (List Token) LexFault
indent_at columns column at =
    if nat_lt (top columns) column then (if nat_lt (length columns) most_levels then Ok (token_at kind.Indent at at ∷ []) else Err (Bad at.pos fault.Nesting))
    else (if top (without_deeper column columns) == column then Ok (replicate (deeper column columns) (token_at kind.Dedent at at)) else Err (Bad at.pos fault.Dedent))

abbrev pub indent_tokens : List ℕ → ℕ → Option Pos → Place → Result (List Token) LexFault
indent_tokens columns column (Some tab) at = Err (Bad tab fault.Tab)
indent_tokens columns column None at = indent_at columns column at

abbrev pub columns_with : List ℕ → ℕ → List ℕ
columns_with columns column = if nat_lt (top columns) column then columns ++ column ∷ [] else without_deeper column columns

-- THE TOKENS OF A LINE from its first one on. A bracket is closed by one of its shape, and at most `most_levels` are open.
abbrev pub same_shape : Shape → Shape → Bool
same_shape Round Round = true
same_shape Square Square = true
same_shape Curly Curly = true
same_shape Round Square = false
same_shape Round Curly = false
same_shape Square Round = false
same_shape Square Curly = false
same_shape Curly Round = false
same_shape Curly Square = false

abbrev pub innermost : List Bracket → Option Bracket
innermost brackets = slice_get brackets (length brackets - 1)

abbrev pub has_shape : Shape → Option Bracket → Bool
has_shape shape None = false
has_shape shape (Some bracket) = same_shape bracket.shape shape

-- the open brackets behind a token, the innermost last
abbrev pub brackets_with : List Bracket → Pos → BracketRole → Result (List Bracket) LexKind
brackets_with brackets at (Opens shape) = if nat_lt (length brackets) most_levels then Ok (brackets ++ record { shape = shape; at = at } ∷ []) else Err fault.Nesting
brackets_with brackets at (Closes shape) = if has_shape shape (innermost brackets) then Ok (take (length brackets - 1) brackets) else Err fault.Mismatch
brackets_with brackets at Neither = Ok brackets

abbrev pub with_token : Token → (List Bracket → Result (List Token) LexFault) → Result (List Bracket) LexKind → Result (List Token) LexFault
with_token token rest (Ok brackets) = put_before (token ∷ []) (rest brackets)
with_token token rest (Err kind) = Err (Bad token.at kind)

-- a bracket that is open at the text's end is a fault where there is no other
abbrev pub text_ends : Place → Option Bracket → Result (List Token) LexFault
text_ends at None = Ok (token_at kind.Newline at at ∷ [])
text_ends at (Some bracket) = Err (Bad bracket.at fault.Unclosed)

abbrev pub with_mark : List Bracket → Mark → (List Bracket → Result (List Token) LexFault) → Result (List Token) LexFault
with_mark brackets (Spelled token from to) rest = with_token (token_at token from to) rest (brackets_with brackets from.pos (token_role token))
with_mark brackets (Wrong at pos kind) rest = Err (Bad pos kind)
with_mark brackets (LineEnd from to) rest = if length brackets == 0 then Ok (token_at kind.Newline from to ∷ []) else rest brackets
with_mark brackets (TextEnd at) rest = text_ends at (innermost brackets)
with_mark brackets Space rest = rest brackets
with_mark brackets (Tab pos) rest = rest brackets
with_mark brackets Gap rest = rest brackets

abbrev pub statement : List Bracket → List Mark → Result (List Token) LexFault
statement brackets [] = Ok []
statement brackets (mark ∷ marks) = with_mark brackets mark (λ behind. statement behind marks)

-- A LINE, before which some columns are open.
abbrev pub line_with : List ℕ → ℕ → Option Pos → List Mark → Option Place → Result (List Token) LexFault
line_with columns column tab marks None = Ok []
line_with columns column tab marks (Some at) = then_read (indent_tokens columns column tab at) (statement [] marks)

abbrev pub line_tokens : List ℕ → List Mark → Result (List Token) LexFault
line_tokens columns line = line_with columns (column_of line) (tab_of line) (behind_gaps line) (first_place (behind_gaps line))

abbrev pub columns_if : List ℕ → ℕ → Option Place → List ℕ
columns_if columns column None = columns
columns_if columns column (Some at) = columns_with columns column

-- the columns that are open behind a line
abbrev pub columns_behind : List ℕ → List Mark → List ℕ
columns_behind columns line = columns_if columns (column_of line) (first_place (behind_gaps line))

-- THE TEXT. At its end the columns but the first are closed.
abbrev pub closing_tokens : List ℕ → Place → List Token
closing_tokens columns end = replicate (length columns - 1) (token_at kind.Dedent end end) ++ token_at kind.End end end ∷ []

-- the tokens of the lines, each with the columns that are open before it
abbrev pub layout_of : List ℕ → Place → List (List Mark) → Result (List Token) LexFault
layout_of columns end [] = Ok (closing_tokens columns end)
layout_of columns end (line ∷ lines) = then_read (line_tokens columns line) (layout_of (columns_behind columns line) end lines)

-- a byte order mark at the start is no part of the first line
abbrev pub first_offset : List ℕ → ℕ
first_offset text = if begins_with (λ c. c == 0xFEFF) text then 3 else 0

abbrev pub without_mark : List ℕ → List ℕ
without_mark text = if begins_with (λ c. c == 0xFEFF) text then drop 1 text else text

abbrev pub start_of : List ℕ → Place
start_of text = record { pos = record { line = 1; column = 1 }; offset = first_offset text }

abbrev pub lines_at : Place → List ℕ → List (List Mark)
lines_at place text = lines_of 0 (marks_of place 0 text)

-- The tokens of a text of characters, or its first fault.
unfoldable pub layout : List ℕ → Result (List Token) LexFault
layout text = layout_of (0 ∷ []) (place_behind (start_of text) (without_mark text)) (lines_at (start_of text) (without_mark text))

-- the answer is the layout of the text; the one other answer is that memory was wanting
abbrev pub IsLayout : Result (List Token) LexFault → Result (Vec Token Global) LexFault → Type 0
IsLayout meant (Ok tokens) = meant ≡ Ok tokens.items
IsLayout meant (Err (Bad pos kind)) = meant ≡ Err (Bad pos kind)
IsLayout meant (Err OutOfMemory) = Unit {0}

-- a list of tokens of which the last one is the text's end
abbrev pub EndsText : List Token → Type 0
EndsText tokens = (front : List Token) × (end : Place) × (tokens ≡ front ++ token_at kind.End end end ∷ [])
