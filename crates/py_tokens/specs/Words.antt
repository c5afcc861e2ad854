-- The operators, delimiters and keywords, and how they are spelled (Language Reference, operators, delimiters, keywords).
use Rattle.std.specs.Prelude.{ℕ, ◌==◌, Bool, true, false, if◌then◌else◌, ◌&&◌, List, [], ◌∷◌, Option, None, Some, codes, bytes_eq, length}
use Rattle.std.specs.Borrow.{Bor}
use Rattle.py_tokens.specs.declared.op.Op.{Op}
use Rattle.py_tokens.specs.declared.op.Op.TheVariants as op

-- longest first: an operator stands before each one that it begins with
unfoldable pub operators : List (List ℕ × Op)
operators =
    (codes "**=", op.DoubleStarEqual) ∷
    (codes "//=", op.DoubleSlashEqual) ∷
    (codes ">>=", op.RightShiftEqual) ∷
    (codes "<<=", op.LeftShiftEqual) ∷
    (codes "...", op.Ellipsis) ∷
    (codes "**", op.DoubleStar) ∷
    (codes "//", op.DoubleSlash) ∷
    (codes ">>", op.RightShift) ∷
    (codes "<<", op.LeftShift) ∷
    (codes ">=", op.GreaterEqual) ∷
    (codes "<=", op.LessEqual) ∷
    (codes "==", op.EqualEqual) ∷
    (codes "!=", op.NotEqual) ∷
    (codes "->", op.Arrow) ∷
    (codes "+=", op.PlusEqual) ∷
    (codes "-=", op.MinusEqual) ∷
    (codes "*=", op.StarEqual) ∷
    (codes "/=", op.SlashEqual) ∷
    (codes "%=", op.PercentEqual) ∷
    (codes "&=", op.AmpersandEqual) ∷
    (codes "|=", op.BarEqual) ∷
    (codes "^=", op.CaretEqual) ∷
    (codes ":=", op.ColonEqual) ∷
    (codes "@=", op.AtEqual) ∷
    (codes "+", op.Plus) ∷
    (codes "-", op.Minus) ∷
    (codes "*", op.Star) ∷
    (codes "/", op.Slash) ∷
    (codes "%", op.Percent) ∷
    (codes "&", op.Ampersand) ∷
    (codes "|", op.Bar) ∷
    (codes "^", op.Caret) ∷
    (codes "~", op.Tilde) ∷
    (codes "<", op.Less) ∷
    (codes ">", op.Greater) ∷
    (codes "(", op.LeftParen) ∷
    (codes ")", op.RightParen) ∷
    (codes "[", op.LeftBracket) ∷
    (codes "]", op.RightBracket) ∷
    (codes "{", op.LeftBrace) ∷
    (codes "}", op.RightBrace) ∷
    (codes ",", op.Comma) ∷
    (codes ":", op.Colon) ∷
    (codes ".", op.Dot) ∷
    (codes ";", op.Semicolon) ∷
    (codes "=", op.Equal) ∷
    (codes "@", op.At) ∷
    []

unfoldable pub keywords : List (List ℕ × Op)
keywords =
    (codes "False", op.False) ∷
    (codes "None", op.None) ∷
    (codes "True", op.True) ∷
    (codes "and", op.And) ∷
    (codes "as", op.As) ∷
    (codes "assert", op.Assert) ∷
    (codes "async", op.Async) ∷
    (codes "await", op.Await) ∷
    (codes "break", op.Break) ∷
    (codes "class", op.Class) ∷
    (codes "continue", op.Continue) ∷
    (codes "def", op.Def) ∷
    (codes "del", op.Del) ∷
    (codes "elif", op.Elif) ∷
    (codes "else", op.Else) ∷
    (codes "except", op.Except) ∷
    (codes "finally", op.Finally) ∷
    (codes "for", op.For) ∷
    (codes "from", op.From) ∷
    (codes "global", op.Global) ∷
    (codes "if", op.If) ∷
    (codes "import", op.Import) ∷
    (codes "in", op.In) ∷
    (codes "is", op.Is) ∷
    (codes "lambda", op.Lambda) ∷
    (codes "nonlocal", op.Nonlocal) ∷
    (codes "not", op.Not) ∷
    (codes "or", op.Or) ∷
    (codes "pass", op.Pass) ∷
    (codes "raise", op.Raise) ∷
    (codes "return", op.Return) ∷
    (codes "try", op.Try) ∷
    (codes "while", op.While) ∷
    (codes "with", op.With) ∷
    (codes "yield", op.Yield) ∷
    []

-- whether the text begins with the word
abbrev pub begins : List ℕ → List ℕ → Bool
begins [] text = true
begins (w ∷ word) [] = false
begins (w ∷ word) (c ∷ text) = (c == w) && begins word text

-- the first entry whose word the text begins with
abbrev pub first_entry : List (List ℕ × Op) → List ℕ → Option (List ℕ × Op)
first_entry [] text = None
first_entry (entry ∷ entries) text = if begins entry.0 text then Some entry else first_entry entries text

-- the longest operator that the text begins with
unfoldable pub operator_at : List ℕ → Option (List ℕ × Op)
operator_at text = first_entry operators text

-- the entry of a word
abbrev pub word_entry : List (List ℕ × Op) → List ℕ → Option Op
word_entry [] word = None
word_entry (entry ∷ entries) word = if bytes_eq word entry.0 then Some entry.1 else word_entry entries word

unfoldable pub keyword_of : List ℕ → Option Op
keyword_of word = word_entry keywords word

-- an entry as a table of the program has it
abbrev pub op_entry : Bor (List ℕ) × Op → List ℕ × Op
op_entry entry = (entry.0.now, entry.1)

-- with the word's length in its place
abbrev pub sized : List ℕ × Op → ℕ × Op
sized entry = (length entry.0, entry.1)
